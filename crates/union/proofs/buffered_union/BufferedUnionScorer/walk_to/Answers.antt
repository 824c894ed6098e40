use Rattle.std.proofs.Common.{refl, ◌∙◌, arith}
use Rattle.refill.proofs.Moves.{told}
use Rattle.docset.proofs.Walking.{seek_starts, seek_steps}
use Rattle.refill.proofs.Reaches.{reads_same, reads_more}
use Rattle.union.proofs.buffered_union.BufferedUnionScorer.walk_to.Goals as goal

pub loop-doc-init : goal.loop-doc-init
loop-doc-init g c =
    let u = c.args.self.now in
    (seek_starts c.args.target _ u.doc (told _ _ _ _ _ _ _ _ u.an_id), reads_same u.start u.doc _ u.an_id u.span, refl, refl)

pub loop-doc-preserved : goal.loop-doc-preserved
loop-doc-preserved g c =
    let v = c.loop-doc.invariant in
    let f = c.advance-doc.ensures in
    let q = v.2 in
    let p = c.requires in
    let l = c.loop-doc-test.true in (
      seek_steps c.args.target _ _ c.loop-doc.doc v.0 l _ c.advance-doc.result f.moves,
      reads_more _ c.loop-doc.self.doc _ c.loop-doc.self.start _ _ _ _ (omega arith) v.1 f.reads,
      f.stands,
      f.docs ∙ v.3,
    )
