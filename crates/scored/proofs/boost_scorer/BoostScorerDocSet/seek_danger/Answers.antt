use Rattle.scored.proofs.Rescored.{probed_retold}
use Rattle.scored.proofs.boost_scorer.BoostScorerDocSet.seek_danger.Goals as goal

pub returns-in-Some : goal.returns-in-Some
returns-in-Some g c = rw c.in-Some.is (probed_retold _ _ _ _ _ c.seek_danger.ensures)
