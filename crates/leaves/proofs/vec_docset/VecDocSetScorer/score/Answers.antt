use Rattle.leaves.proofs.Leaves.{slice_scored, slice_scored_end}
use Rattle.leaves.proofs.vec_docset.VecDocSetScorer.score.Goals as goal

pub returns-then-self : goal.returns-then-self
returns-then-self c = slice_scored _ _ c.if-self.true

pub returns-else-self : goal.returns-else-self
returns-else-self c = slice_scored_end _ _ c.if-self.false
