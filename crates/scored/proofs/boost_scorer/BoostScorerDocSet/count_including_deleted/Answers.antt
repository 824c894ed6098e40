use Rattle.scored.proofs.Rescored.{counted_retold}
use Rattle.scored.proofs.boost_scorer.BoostScorerDocSet.count_including_deleted.Goals as goal

pub returns-in-Some : goal.returns-in-Some
returns-in-Some g c = rw c.in-Some.is (counted_retold _ _ _ c.count_including_deleted.ensures)
