use Rattle.scored.proofs.Rescored.{sought_retold}
use Rattle.scored.proofs.boost_scorer.BoostScorerDocSet.seek.Goals as goal

pub returns-in-Some : goal.returns-in-Some
returns-in-Some g c = rw c.in-Some.is (sought_retold _ _ _ _ _ c.seek.ensures)
