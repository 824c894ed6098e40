use Rattle.leaves.proofs.Alls.{all_told, all_told_end}
use Rattle.leaves.proofs.all_scorer.AllScorerDocSet.doc.Goals as goal

pub returns-then-self : goal.returns-then-self
returns-then-self c = all_told _ _ c.args.self.now.small c.if-self.true

pub returns-else-self : goal.returns-else-self
returns-else-self c = all_told_end _ _ c.if-self.false
