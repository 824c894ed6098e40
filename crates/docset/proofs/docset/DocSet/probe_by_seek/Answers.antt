use Rattle.docset.proofs.Probes.{probe_past, probe_sought, sought_already}
use Rattle.docset.proofs.docset.DocSet.probe_by_seek.Goals as goal

pub returns-then-target-ge-TERMINATED-clause-probes : goal.returns-then-target-ge-TERMINATED-clause-probes
returns-then-target-ge-TERMINATED-clause-probes g c = probe_past _ _ c.if-target-ge-TERMINATED.true c.doc-doc.ensures.rises

pub returns-then-target-doc-clause-probes : goal.returns-then-target-doc-clause-probes
returns-then-target-doc-clause-probes g c =
    probe_sought _ _ _ _ _ c.if-target-ge-TERMINATED.false c.doc-doc.ensures.rises
    (sought_already _ _ _ c.doc-doc.ensures c.if-target-doc.true) c.at.ensures

pub returns-clause-probes : goal.returns-clause-probes
returns-clause-probes g c =
    probe_sought _ _ _ _ _ c.if-target-ge-TERMINATED.false c.doc-doc.ensures.rises c.seek-doc.ensures c.at-2.ensures
