use Rattle.std.proofs.Common.{ℕ, ◌+◌, ◌≤◌, false, get_or, sym, refl, ap, ◌∙◌, subst, arith}
use Rattle.window.specs.Windows.{cells}
use Rattle.window.specs.declared.window.Window.{Window}
use Rattle.bank.specs.Places.{at}
use Rattle.live.specs.Kept.{live_at}
use Rattle.live.specs.Views.{left}
use Rattle.live.proofs.Keeps.{set_at}
use Rattle.refill.specs.Refills.{Poured}
use Rattle.refill.proofs.Pours.{pouring_more, poured, Turned, turned_put, turned_skip, set_on}
use Rattle.refill.proofs.refill.pour.Goals.{then-start-doc, else-start-doc}
use Rattle.refill.proofs.refill.pour.Goals as goal

pub loop-doc-init : goal.loop-doc-init
loop-doc-init g c =
    let t = c.doc_at-doc.ensures.told in (
      record { an_id = t.an_id; still = λ s. s; list = λ s. refl; tells = λ s. t.tells s.0; due = λ s e l. refl; outside = λ e l. refl },
      set_at (left g.B.Bank.rows c.args.sets.now) c.args.place,
      omega arith,
      c.doc_at-doc.ensures.live,
    )

pub loop-doc-preserved : goal.loop-doc-preserved
loop-doc-preserved g c =
    let i = c.args.place in
    let f = g.C.ScoreCombiner.taken c.args.combiner.now in
    let P = left g.B.Bank.rows c.args.sets.now in
    let Q = left g.B.Bank.rows c.loop-doc.sets in
    let R = left g.B.Bank.rows c.wanted_score-score.new.self in
    let S = left g.B.Bank.rows c.advance_at-doc.new.self in
    let v = c.loop-doc.invariant in
    let k = c.wanted_score-score.ensures in
    let a = c.advance_at-doc.ensures in
    let lt = c.loop-doc-test.true in
    let ht : c.horizon-end.result ≤ 2147483647 = omega (arith, c.horizon-end.ensures) in
    let F : Window → Type 0 = λ w. Turned f c.args.start c.horizon-end.result c.loop-doc.doc (at Q i) (cells c.loop-doc.window) (cells w) in
    let T : F c.if-start-doc.window =
    elim c.if-start-doc.branch [
      | then-start-doc w ↦ subst F (sym w.window-is) (turned_put f c.args.start c.horizon-end.result c.loop-doc.doc (at Q i) c.wanted_score-score.result _ _ w.if-start-doc.true lt ht k.alike (w.insert.ensures.puts (let z : c.horizon-end.result ≤ c.args.start + 4096 = omega (arith, c.horizon-end.ensures) in let y = w.if-start-doc.true in omega arith)))
      | else-start-doc w ↦ subst F (sym w.window-is) (turned_skip f c.args.start c.horizon-end.result c.loop-doc.doc (at Q i) _ (let h = w.if-start-doc.false in omega arith))
    ] in
    let b = T in
    let m = b.more in
    let l1 : live_at c.loop-doc.sets.live i = v.3 (omega arith) in
    let l2 : live_at c.wanted_score-score.new.self.live i = ap (λ x. get_or x i false) k.live ∙ l1 in
    let p1 = k.pays in
    let p2 = a.pays l2 in
    let p3 = v.2 in (
      pouring_more f c.args.start c.horizon-end.result c.loop-doc.doc c.advance_at-doc.result (at P i) (at Q i) (at R i) (at S i) _ _ _ lt ht v.0 k.same a.steps b.due b.outside,
      set_on P R S i (at R i) (at S i) (set_on P Q R i (at Q i) (at R i) v.1 k.others) a.others,
      omega arith,
      a.live,
    )

pub loop-doc-smaller : goal.loop-doc-smaller
loop-doc-smaller g c =
    let i = c.args.place in
    let k = c.wanted_score-score.ensures in
    let ht : c.horizon-end.result ≤ 2147483647 = omega (arith, c.horizon-end.ensures) in
    let lt = c.loop-doc-test.true in
    let l1 : live_at c.loop-doc.sets.live i = c.loop-doc.invariant.3 (omega arith) in
    let l2 : live_at c.wanted_score-score.new.self.live i = ap (λ x. get_or x i false) k.live ∙ l1 in
    let p1 = k.pays in
    let p2 = c.advance_at-doc.ensures.pays l2 in
    omega arith

pub returns : goal.returns
returns g c =
    let v = c.loop-doc.invariant in
    let F : ℕ → Type 0 = λ h. Poured (g.C.ScoreCombiner.taken c.args.combiner.now) c.args.start h (at (left g.B.Bank.rows c.args.sets.now) c.args.place) (at (left g.B.Bank.rows c.loop-doc.sets) c.args.place) (cells c.args.window.now) (cells c.loop-doc.window) in
    record {
      poured = subst F c.horizon-end.ensures (poured _ c.args.start c.horizon-end.result c.loop-doc.doc _ _ _ _ c.loop-doc-test.false v.0);
      others = v.1;
      pays = v.2;
    }
