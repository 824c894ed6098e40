use Rattle.std.proofs.Common.{◌≡◌, ℕ, ◌+◌, ◌≤◌, cond, drop, sym, ◌∙◌, subst, rules, arith}
use Rattle.docset.specs.Meaning.{Known, RisingIds}
use Rattle.docset.specs.Calls.{found}
use Rattle.placement.proofs.Probing.{Sofar, starts, one_found, none_found, probe_at, ends}
use Rattle.placement.proofs.lesson.count_listed.Goals.{then-eq, else-eq}
use Rattle.placement.proofs.lesson.count_listed.Goals as goal

pub loop-id-init : goal.loop-id-init
loop-id-init g c = (omega arith, λ k r. starts (g.S.DocSet.meaning c.args.set) c.args.ids.now k r)

pub loop-id-preserved : goal.loop-id-preserved
loop-id-preserved g c =
    let m = g.S.DocSet.meaning in
    let P : ℕ → Type 0 = λ n. (n ≤ c.loop-id.id-index + 1)
    × (Known (m c.args.set).mark → RisingIds 0 c.args.ids.now → Sofar (m c.args.set) (m c.seek_danger.new.self) c.args.ids.now (drop (c.loop-id.id-index + 1) c.args.ids.now) n) in
    let next : (more : ℕ) → more ≡ cond (found c.seek_danger.result) 1 0 → more ≤ 1 → P (c.loop-id.count + more) = λ more e l. (
      omega (arith, c.loop-id.invariant.0, l),
      λ k r.
          probe_at (m c.args.set) (m c.loop-id.set) (m c.seek_danger.new.self) c.args.ids.now c.loop-id.id-index c.loop-id.count more
          c.seek_danger.result (omega arith) (c.loop-id.invariant.1 k r) c.seek_danger.ensures e,
    ) in
    elim c.if-eq.branch [
      | then-eq w ↦ subst P (sym w.count-is) (next 1 (one_found _ (search rules)) (omega arith))
      | else-eq w ↦ let z : c.loop-id.count + 0 ≡ c.loop-id.count = omega arith in subst P (z ∙ sym w.count-is) (next 0 (none_found _ (search rules)) (omega arith))
    ]

pub returns : goal.returns
returns g c = record {
  bound = omega (arith, c.loop-id.invariant.0);
  tells = λ k r.
      ends (g.S.DocSet.meaning c.args.set) (g.S.DocSet.meaning c.loop-id.set) c.args.ids.now c.loop-id.id-index
      c.loop-id.count (omega arith) (c.loop-id.invariant.1 k r);
}
