use Rattle.std.proofs.Common.{◌≡◌, [], ◌∷◌, ◌++◌, vec_items, ap, ◌∙◌, rules}
use Rattle.heap.specs.declared.hit.Hit.{Hit}
use Rattle.pick.proofs.Draining.{drain_steps}
use Rattle.pick.proofs.hits_of.Goals as goal

pub loop-doc-preserved : goal.loop-doc-preserved
loop-doc-preserved g c =
    let pushed : vec_items c.push.new.self ≡ vec_items c.loop-doc.found ++ (c.new.result ∷ []) = search rules in
    drain_steps _ _ _ _ _ _ _ _ _ c.loop-doc.invariant c.loop-doc-test.true c.score-score.ensures c.advance-doc.ensures
    (pushed ∙ ap (λ (x : Hit). vec_items c.loop-doc.found ++ (x ∷ [])) c.new.ensures.filled)
