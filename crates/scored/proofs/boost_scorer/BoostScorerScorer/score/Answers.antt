use Rattle.std.proofs.Common.{ap}
use lib.Ieee.{Float, mul, binary32}
use Rattle.scored.proofs.Rescored.{scored_retold}
use Rattle.scored.proofs.boost_scorer.BoostScorerScorer.score.Goals as goal

pub returns-in-Some : goal.returns-in-Some
returns-in-Some g c =
    let b = c.in-Some.boost in
    rw c.in-Some.is
    (scored_retold (λ p. mul binary32 p.score b) _ _ _ c.score.result _ c.doc.ensures c.if-doc-ne-TERMINATED.true c.score.ensures
    (λ p i s. ap (λ (y : Float). mul binary32 y b) s))
