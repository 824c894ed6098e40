use Rattle.live.specs.Views.{awaited}
use Rattle.window.specs.Windows.{cells}
use Rattle.std.proofs.Common.{◌≡◌, ◌<◌, true, length, sym, refl, ap, ◌∙◌, arith}
use Rattle.docset.specs.Meaning.{Steady, calm}
use Rattle.docset.proofs.Lists.{short, ended, steady_known}
use Rattle.combiner.proofs.Cells.{count_le}
use Rattle.live.specs.Lists.{union_list}
use Rattle.refill.specs.State.{bound, settled}
use Rattle.refill.proofs.States.{settled_is}
use Rattle.refill.proofs.Moves.{told, is_settled}
use Rattle.refill.proofs.Drains.{window_length, opened_less}
use Rattle.union.specs.Reading.{left_of}
use Rattle.union.proofs.Ghosts.{meant, none_before, none_past}
use Rattle.union.proofs.buffered_union.calls.BufferedUnionScorerDocSet.count_including_deleted.Goals as goal

pub loop-doc-init : goal.loop-doc-init
loop-doc-init g c =
    let h = told _ _ _ _ _ _ _ _ c.args.self.an_id in
    (refl, (λ s. s), (λ s. omega arith), (λ s. short _ (h.rises (steady_known _ s))))

pub overflow_add-len : goal.overflow_add-len
overflow_add-len g c =
    let n = count_le (cells c.loop-doc.self.window) 0 4096 in
    let e = c.len.ensures in
    omega arith

pub loop-doc-smaller : goal.loop-doc-smaller
loop-doc-smaller g c =
    let l = c.loop-doc.self in
    let here = c.loop-doc.invariant.0 in
    let lt : l.doc < 2147483647 = omega (arith, l.an_id, c.loop-doc-test.true) in
    opened_less _ _ l.start l.doc c.open-doc.result l.score (cells l.window) _ _ _ l.begun lt (l.span lt) (none_before l) (none_past l) c.open-doc.ensures.opened

pub loop-doc-preserved : goal.loop-doc-preserved
loop-doc-preserved g c =
    let rows = g.B.Bank.rows in
    let take = g.C.ScoreCombiner.taken in
    let tell = g.C.ScoreCombiner.told in
    let u = c.args.self in
    let l = c.loop-doc.self in
    let v = c.loop-doc.invariant in
    let here = v.0 in
    let o = c.open-doc.ensures.opened in
    let lt : l.doc < 2147483647 = omega (arith, l.an_id, c.loop-doc-test.true) in
    let set : Steady (meant rows take tell u) → settled (bound l.start l.doc) (left_of rows l) ≡ true = λ s. is_settled _ _ _ _ _ _ _ _ (v.1 s) in
    let becomes : Steady (meant rows take tell u) → meant rows take tell c.open-doc.new.self ≡ calm (union_list (take l.combiner) (tell l.combiner) (left_of rows l)) =
    λ s. o.becomes (settled_is (bound l.start l.doc) (left_of rows l) (set s)).0 in (
      c.open-doc.ensures.stands,
      (λ s. ap (λ x. x.mark) (becomes s)),
      (λ s.
          let n = window_length (take l.combiner) (tell l.combiner) l.start l.doc l.score (cells l.window) (left_of rows l) (awaited rows l.sets) l.begun lt (l.span lt)
          (none_before l) (none_past l) o.rises (set s) in
          let m = ap (λ x. length x.pairs) (becomes s) in
          let t = v.2 s in
          let r = v.3 s in
          let k = c.len.ensures in
          let a = c.saturating_add-count.ensures in
          omega arith),
      v.3,
    )

pub returns : goal.returns
returns g c =
    let v = c.loop-doc.invariant in
    let h = told _ _ _ _ _ _ _ _ c.loop-doc.self.an_id in
    record {
      tells = λ s.
          let e = ap length (ended 0 _ (h.rises (steady_known _ (v.1 s))) (sym (h.tells (v.1 s)) ∙ v.0 ∙ c.loop-doc-test.false)) in
          let t = v.2 s in
          omega arith;
    }
