use Rattle.scored.proofs.Rescored.{told_retold}
use Rattle.scored.proofs.boost_scorer.BoostScorerDocSet.doc.Goals as goal

pub returns-in-Some : goal.returns-in-Some
returns-in-Some g c = rw c.in-Some.is (told_retold _ _ _ c.doc.ensures)
