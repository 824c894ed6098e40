use Rattle.std.proofs.Common.{add-one}
use Rattle.leaves.proofs.Alls.{all_moved, all_stays}
use Rattle.leaves.proofs.all_scorer.AllScorerDocSet.advance.Goals as goal
use Rattle.leaves.proofs.all_scorer.AllScorerDocSet.advance.Goals.{then-self, else-self}

pub returns : goal.returns
returns c =
    elim c.if-self.branch [
      | then-self w ↦ rw (w.self-is, add-one) (all_moved _ _ _ w.if-self.true (rw (w.self-is, add-one) at c.doc.ensures))
      | else-self w ↦ rw w.self-is (all_stays _ _ _ w.if-self.false (rw w.self-is at c.doc.ensures))
    ]
