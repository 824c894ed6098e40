use Rattle.std.proofs.Common.{◌≡◌, false, sym, refl, ◌∙◌, ⊎_elim, arith}
use Rattle.std.proofs.lemmas.Bool.{cases_Bool}
use Rattle.docset.proofs.Walking.{seek_starts, seek_steps}
use Rattle.threshold.specs.State.{threshold_meaning, unread_of, doc_of}
use Rattle.threshold.proofs.States.{told, steady_fit, read_here, read_next, goes_up}
use Rattle.threshold.proofs.disjunction.calls.DisjunctionDocSet.seek.Goals as goal

pub loop-doc-init : goal.loop-doc-init
loop-doc-init g c =
    let u = c.args.self.now in
    let f = c.doc-doc.ensures in (
      seek_starts _ _ _ f.told,
      refl,
      f.stands,
      (λ s. rw (← f.stands) (read_here (doc_of u) _ _ (unread_of u) u.an_id u.ends (steady_fit _ _ _ _ _ _ _ _ s))),
    )

pub loop-doc-preserved : goal.loop-doc-preserved
loop-doc-preserved g c =
    let i = c.loop-doc.invariant in
    let u = c.loop-doc.self in
    let f = c.advance-doc.ensures in
    let m = threshold_meaning g.B.Bank.rows g.C.ScoreCombiner.taken g.C.ScoreCombiner.told u in
    let off : unread_of u ≡ false = ⊎_elim (λ e. absurd (c.if-doc-ne-TERMINATED.true (sym i.2 ∙ (u.waits e).0))) (λ e. e) (cases_Bool (unread_of u)) in (
      seek_steps _ _ _ _ i.0 c.loop-doc-test.true _ _ f.moved,
      f.read ∙ sym off ∙ i.1,
      f.stands,
      (λ s. read_next c.loop-doc.doc c.advance-doc.result _ _ _ _ (sym i.1 ∙ off)
          (let a = goes_up m _ (doc_of u) c.advance-doc.result (told _ _ _ _ _ _ _ _ u.an_id) f.moved (i.0.along.still s) in let b = i.2 in omega arith)
          (i.3 s) (f.reads (i.0.along.still s))),
    )
