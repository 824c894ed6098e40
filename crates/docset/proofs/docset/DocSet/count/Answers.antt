use Rattle.docset.proofs.Walking.{count_starts, count_ends}
use Rattle.docset.proofs.docset.DocSet.count.Goals as goal

pub loop-doc-init : goal.loop-doc-init
loop-doc-init g c = count_starts _ _ _ c.doc-doc.ensures

pub returns : goal.returns
returns g c = record { tells = count_ends _ _ _ _ _ c.loop-doc.invariant c.loop-doc-test.false }
