use Rattle.scored.proofs.Rescored.{counted_alive_retold}
use Rattle.scored.proofs.boost_scorer.BoostScorerDocSet.count.Goals as goal

pub returns-in-Some : goal.returns-in-Some
returns-in-Some g c = rw c.in-Some.is (counted_alive_retold _ _ _ _ c.count.ensures)
