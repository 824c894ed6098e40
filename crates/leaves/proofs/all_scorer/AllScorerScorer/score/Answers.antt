use Rattle.leaves.proofs.Alls.{all_scored, all_scored_end}
use Rattle.leaves.proofs.all_scorer.AllScorerScorer.score.Goals as goal

pub returns-then-self : goal.returns-then-self
returns-then-self c = all_scored _ _ c.if-self.true

pub returns-else-self : goal.returns-else-self
returns-else-self c = all_scored_end _ _ c.if-self.false
