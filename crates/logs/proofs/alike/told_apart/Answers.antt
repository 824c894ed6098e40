use Rattle.docset.proofs.Lists.{steady_known}
use Rattle.logs.proofs.Laws.{told_apart}
use Rattle.logs.proofs.alike.told_apart.Goals as goal

pub returns : goal.returns
returns g c =
    λ s t. told_apart _ _ s t (c.doc.ensures.rises (steady_known _ s)) (c.doc-2.ensures.rises (steady_known _ t))
