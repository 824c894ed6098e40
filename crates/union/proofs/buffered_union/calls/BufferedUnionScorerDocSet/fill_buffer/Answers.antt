use Rattle.window.specs.Windows.{cells}
use Rattle.std.proofs.Common.{◌≡◌, ℕ, ◌+◌, ◌<◌, true, refl, ap, ◌∙◌, subst, inl, inr, arith}
use Rattle.std.proofs.lemmas.List.{length-map}
use Rattle.docset.specs.Meaning.{Steady}
use Rattle.docset.specs.Calls.{Told}
use Rattle.docset.proofs.Walking.{fill_starts, fill_ends, falls}
use Rattle.combiner.specs.Cells.{slots, count}
use Rattle.refill.specs.State.{bound, settled}
use Rattle.refill.proofs.Moves.{told, is_calm}
use Rattle.refill.proofs.Reaches.{through_none}
use Rattle.refill.proofs.Drains.{fill_skims}
use Rattle.union.specs.Reading.{left_of}
use Rattle.union.proofs.Ghosts.{meant, meant_with, fields_wiped}
use Rattle.union.proofs.Turns.{drained, drained_shorter, through_turn}
use Rattle.union.proofs.buffered_union.calls.BufferedUnionScorerDocSet.fill_buffer.Goals as goal

pub loop-filled-init : goal.loop-filled-init
loop-filled-init g c =
    let u = c.args.self.now in
    (fill_starts _ c.args.buffer.now u.doc c.told-buffer (told _ _ _ _ _ _ _ _ u.an_id), through_none u.start u.doc (left_of g.B.Bank.rows u), refl, refl)

pub invariant_of-self : goal.invariant_of-self
invariant_of-self g c =
    let l = c.loop-filled.self in
    let D = c.drain-filled.ensures.drained (omega (arith, l.an_id, l.begun)) (omega (arith, c.loop-filled-test.true)) in
    fields_wiped l D.reach c.drain-filled.new.self D.wiped

pub loop-filled-preserved : goal.loop-filled-preserved
loop-filled-preserved g c =
    let rows = g.B.Bank.rows in
    let take = g.C.ScoreCombiner.taken in
    let tell = g.C.ScoreCombiner.told in
    let u = c.args.self.now in
    let l = c.loop-filled.self in
    let w = c.drain-filled.new.self in
    let v = c.loop-filled.invariant in
    let f = c.advance-doc.ensures in
    let ne = c.if-doc-ne-TERMINATED.true in
    let here = v.2 in
    let lt : l.doc < 2147483647 = omega (arith, l.an_id, ne) in
    let D = c.drain-filled.ensures.drained (omega (arith, l.an_id, l.begun)) (omega (arith, c.loop-filled-test.true)) in
    let answer = D.answer in
    let full = D.full in
    let K = drained rows take tell l w D.reach lt D.inside D.wiped in
    let long = length-map (slots (cells l.window) 0 D.reach) (λ (x : ℕ). l.start + x) in
    let F : ℕ → Type 0 = λ x. Told (meant_with rows take tell l w) x in
    let W = fill_skims (meant rows take tell u) (meant rows take tell l) (meant_with rows take tell l w) _ c.args.buffer.now c.loop-filled.buffer c.drain-filled.new.buffer _
    c.loop-filled.filled c.loop-filled.doc c.advance-doc.result c.drain-filled.result (bound l.start l.doc) c.told-buffer v.0 c.loop-filled-test.true ne K
    (drained_shorter rows take tell l w D.reach lt D.inside D.wiped) (subst F here (told _ _ _ _ _ _ _ _ l.an_id)) D.buffer (omega arith) (omega arith) f.moves in
    let steady : settled (bound u.start u.doc) (left_of rows u) ≡ true → Steady (meant rows take tell u) = λ z. ap (λ x. x.mark) (is_calm _ _ _ _ _ _ _ _ z) in (
      W,
      through_turn _ c.loop-filled.filled (count (cells l.window) 0 D.reach) _ _ l.doc l.start _ _ _ _ _ _ _ _ _ _ _ _ _ _ steady v.0 K long (omega arith) W f.stands v.1 f.reads,
      f.stands,
      f.docs ∙ v.3,
    )

pub loop-filled-smaller : goal.loop-filled-smaller
loop-filled-smaller g c =
    let rows = g.B.Bank.rows in
    let take = g.C.ScoreCombiner.taken in
    let tell = g.C.ScoreCombiner.told in
    let l = c.loop-filled.self in
    let w = c.drain-filled.new.self in
    let v = c.loop-filled.invariant in
    let ne = c.if-doc-ne-TERMINATED.true in
    let here = v.2 in
    let lt : l.doc < 2147483647 = omega (arith, l.an_id, ne) in
    let D = c.drain-filled.ensures.drained (omega (arith, l.an_id, l.begun)) (omega (arith, c.loop-filled-test.true)) in
    let short = drained_shorter rows take tell l w D.reach lt D.inside D.wiped in
    let less = falls (meant_with rows take tell l w) _ c.loop-filled.doc c.advance-doc.result v.0.along.an_id ne c.advance-doc.ensures.moves in
    omega arith

pub returns-else-doc-ne-TERMINATED-clause-moves : goal.returns-else-doc-ne-TERMINATED-clause-moves
returns-else-doc-ne-TERMINATED-clause-moves g c = fill_ends _ _ _ _ _ _ c.loop-filled.invariant.0 (inr c.if-doc-ne-TERMINATED.false)

pub returns-after-loop-filled-clause-moves : goal.returns-after-loop-filled-clause-moves
returns-after-loop-filled-clause-moves g c =
    let v = c.loop-filled.invariant in
    fill_ends _ _ _ _ _ _ v.0 (inl (omega (arith, v.0.at_most, c.loop-filled-test.false)))
