use Rattle.std.proofs.Common.{arith}
use Rattle.leaves.proofs.Alls.{all_sought}
use Rattle.leaves.proofs.all_scorer.AllScorerDocSet.seek.Goals as goal

pub returns-then-target-self : goal.returns-then-target-self
returns-then-target-self c =
    let s = c.args.self.now in
    all_sought c.args.target _ _ _ _ s.small s.within (omega (arith, c.if-target-self.true, s.within)) c.doc.ensures

pub returns : goal.returns
returns c =
    let s = c.args.self.now in
    all_sought c.args.target _ _ _ _ s.small s.within (omega (arith, c.if-target-self.false, c.min-self.ensures, s.within)) c.doc-2.ensures
