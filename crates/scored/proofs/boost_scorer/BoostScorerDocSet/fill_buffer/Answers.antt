use Rattle.scored.proofs.Rescored.{filled_retold}
use Rattle.scored.proofs.boost_scorer.BoostScorerDocSet.fill_buffer.Goals as goal

pub returns-in-Some : goal.returns-in-Some
returns-in-Some g c = rw c.in-Some.is (filled_retold _ _ _ _ _ _ c.fill_buffer.ensures)
