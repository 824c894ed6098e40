use Rattle.scored.proofs.Rescored.{moved_retold}
use Rattle.scored.proofs.boost_scorer.BoostScorerDocSet.advance.Goals as goal

pub returns-in-Some : goal.returns-in-Some
returns-in-Some g c = rw c.in-Some.is (moved_retold _ _ _ _ c.advance.ensures)
