use Rattle.std.proofs.Common.{inr}
use Rattle.docset.proofs.Walking.{seek_starts, seek_ends}
use Rattle.docset.proofs.docset.DocSet.seek.Goals as goal

pub loop-doc-init : goal.loop-doc-init
loop-doc-init g c = seek_starts _ _ _ c.doc-doc.ensures

pub returns-else-doc-ne-TERMINATED : goal.returns-else-doc-ne-TERMINATED
returns-else-doc-ne-TERMINATED g c = seek_ends _ _ _ _ c.loop-doc.invariant (inr c.if-doc-ne-TERMINATED.false)
