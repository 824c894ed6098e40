use Rattle.std.proofs.Common.{◌≡◌, ℕ, ◌+◌, ◌*◌, min, List, length, sym, refl, ◌∙◌, subst, arith, rules}
use Rattle.window.specs.Windows.{cells, held, Wiped}
use Rattle.window.proofs.Slots.{Behind, behind_more}
use Rattle.window.proofs.Held.{wiped_none, wiped_more, held_past}
use Rattle.window.proofs.window.Window.skip.Goals as goal

pub loop-bucket-init : goal.loop-bucket-init
loop-bucket-init c =
    let w = c.args.self.now in
    (w.behind, refl, wiped_none w.words w.tallies (min c.min-end.result w.bucket * 64) (w.bucket * 64) (omega arith) w.behind)

pub loop-bucket-preserved : goal.loop-bucket-preserved
loop-bucket-preserved c =
    let w = c.loop-bucket.self in
    let b = c.loop-bucket.bucket in
    let i = c.loop-bucket.invariant in
    let v = c.wipe.new.self in
    let a = cells c.args.self.now in
    let lo : min c.min-end.result b * 64 ≡ b * 64 = omega arith in
    let hi : (b + 1) * 64 ≡ min c.min-end.result (b + 1) * 64 = omega arith in
    let F : ℕ → Type 0 = λ x. Wiped a (cells w) x in
    let G : List ℕ → Type 0 = λ ws. Behind ws ((b + 1) * 64) × Wiped a (held ws v.tallies) ((b + 1) * 64) in
    let H : ℕ → Type 0 = λ x. Wiped a (cells v) x in
    let more = wiped_more a w.words w.tallies v.tallies b i.0 c.wipe.ensures.tallies (subst F lo i.2) in
    let g = subst G (sym c.wipe.ensures.words) (behind_more w.words b i.0, more) in
    (g.0, c.wipe.ensures.bucket ∙ i.1, subst H hi g.1)

pub returns : goal.returns
returns c =
    let w = c.loop-bucket.self in
    let b = c.args.self.now in
    let n : length b.words ≡ 64 = search rules in
    let e : min c.min-end.result c.loop-bucket.bucket * 64 ≡ min c.args.to 64 * 64 = let m = c.min-end.ensures in omega arith in
    let F : ℕ → Type 0 = λ x. Wiped (cells b) (cells w) x in
    let i = c.loop-bucket.invariant in
    let d = subst F e i.2 in
    record { wiped = d; past = λ k l. d.others k (omega arith) ∙ held_past b.words b.tallies k n l }
