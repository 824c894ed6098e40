use Rattle.std.proofs.Common.{refl}
use Rattle.logs.proofs.Tracks.{starts, ends, ids_differ, scores_differ, steps, less}
use Rattle.logs.proofs.alike.alike.Goals as goal

pub loop-doc-init : goal.loop-doc-init
loop-doc-init g c = starts _ _ _ _ c.doc-doc.ensures c.doc-other.ensures

pub loop-doc-preserved : goal.loop-doc-preserved
loop-doc-preserved g c =
    steps _ _ _ _ _ _ c.loop-doc.invariant _ _ _ _ c.score-score.ensures c.score-other_score.ensures c.loop-doc-test.true c.if-doc-other.false (c.if-not-same_score.ensures.0 refl) _ _ _ _ c.advance-doc.ensures c.advance-other.ensures

pub loop-doc-smaller : goal.loop-doc-smaller
loop-doc-smaller g c =
    less _ _ _ _ _ _ c.loop-doc.invariant _ _ _ _ c.score-score.ensures c.loop-doc-test.true c.advance-doc.ensures

pub returns-then-doc-other : goal.returns-then-doc-other
returns-then-doc-other g c = ids_differ _ _ _ _ _ _ c.loop-doc.invariant c.if-doc-other.true

pub returns-then-not-same_score : goal.returns-then-not-same_score
returns-then-not-same_score g c =
    scores_differ _ _ _ _ _ _ c.loop-doc.invariant _ _ _ _ c.score-score.ensures c.score-other_score.ensures
    (λ h. cc (c.if-not-same_score.ensures.1 h))

pub returns : goal.returns
returns g c = ends _ _ _ _ _ _ c.loop-doc.invariant c.loop-doc-test.false
