use Rattle.docset.proofs.Probes.{lifted_past, probe_lifted, probe_sought}
use Rattle.refill.proofs.Moves.{told, known_steady}
use Rattle.union.proofs.buffered_union.calls.BufferedUnionScorerDocSet.seek_danger.Goals as goal

pub returns-then-target-ge-TERMINATED-clause-probes : goal.returns-then-target-ge-TERMINATED-clause-probes
returns-then-target-ge-TERMINATED-clause-probes g c =
    let u = c.args.self.now in
    lifted_past c.args.target _ u.doc (known_steady _ _ _ _ _ _ _ _) (told _ _ _ _ _ _ _ _ u.an_id) c.if-target-ge-TERMINATED.true

pub returns-clause-probes : goal.returns-clause-probes
returns-clause-probes g c =
    let v = c.seek-doc.ensures in
    probe_lifted c.args.target _ _ _ (known_steady _ _ _ _ _ _ _ _)
    (probe_sought c.args.target _ _ c.seek-doc.result _ c.if-target-ge-TERMINATED.false (told _ _ _ _ _ _ _ _ c.args.self.now.an_id).rises v.moves c.at.ensures)
