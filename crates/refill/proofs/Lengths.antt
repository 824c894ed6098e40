-- How long the list of a union can be.
use Rattle.std.proofs.Common.{◌≡◌, ℕ, zero, suc, ◌+◌, ◌-◌, ◌<◌, ◌≤◌, List, refl, ap, ◌∙◌, ⊎_elim, arith}
use lib.Ieee.{Float}
use Rattle.combiner.specs.declared.score_combiner.Tally.{Tally}
use Rattle.combiner.specs.Cells.{Cell, slots, count}
use Rattle.std.proofs.lemmas.Bool.{cases_lt}
use Rattle.docset.specs.Meaning.{Meaning}
use Rattle.live.proofs.Thresholds.{total, count_united}
use Rattle.live.specs.Lists.{united}
use Rattle.combiner.proofs.Cells.{count_step, filled}
use Rattle.refill.specs.Refills.{reach}
use Rattle.refill.specs.State.{ahead}
use Rattle.refill.proofs.States.{ahead_in, ahead_out}

-- one cell more in front, or less
pub count_zero : (a : ℕ → Cell) (lo : ℕ) → count a lo 0 ≡ 0
unfolding slots
count_zero a lo = refl

-- the cells ahead are those of the window from k on, and those of the sets
count_ahead : (f : Tally → Float → Tally) (s : ℕ) (a : ℕ → Cell) (ms : List Meaning) (k n : ℕ) → count (ahead f s a ms) (s + k) n ≤ count a k (4096 - k) + count (united f ms) (s + k) n
count_ahead f s a ms k zero = let x = count_zero (ahead f s a ms) (s + k) in omega arith
count_ahead f s a ms k (suc n) = ⊎_elim (λ lt. inside lt (count_ahead f s a ms (suc k) n)) (λ ge. outside ge (count_ahead f s a ms (suc k) n)) (cases_lt (s + k) (reach s))
  where
    A : ℕ → Cell
    A = ahead f s a ms

    U : ℕ → Cell
    U = united f ms

    inside : s + k < reach s → count (ahead f s a ms) (s + suc k) n ≤ count a (suc k) (4096 - suc k) + count (united f ms) (s + suc k) n → count (ahead f s a ms) (s + k) (suc n) ≤ count a k (4096 - k) + count (united f ms) (s + k) (suc n)
    inside lt ih =
        let q : s + suc k ≡ suc (s + k) = omega arith in
        let p : 4096 - k ≡ suc (4096 - suc k) = omega arith in
        let x = count_step (ahead f s a ms) (s + k) n in
        let y = count_step (united f ms) (s + k) n in
        let z = ap (count a k) p ∙ count_step a k (4096 - suc k) in
        let g : (s + k) - s ≡ k = omega arith in
        let w = ap filled (ahead_in f s a ms (s + k) lt ∙ ap a g) in
        let i1 = ap (λ d. count (ahead f s a ms) d n) q in
        let i2 = ap (λ d. count (united f ms) d n) q in
        omega arith

    outside : reach s ≤ s + k → count (ahead f s a ms) (s + suc k) n ≤ count a (suc k) (4096 - suc k) + count (united f ms) (s + suc k) n → count (ahead f s a ms) (s + k) (suc n) ≤ count a k (4096 - k) + count (united f ms) (s + k) (suc n)
    outside ge ih =
        let q : s + suc k ≡ suc (s + k) = omega arith in
        let x = count_step (ahead f s a ms) (s + k) n in
        let y = count_step (united f ms) (s + k) n in
        let w = ap filled (ahead_out f s a ms (s + k) ge) in
        let i1 = ap (λ d. count (ahead f s a ms) d n) q in
        let i2 = ap (λ d. count (united f ms) d n) q in
        let t = tail_le a k (4096 - k) in
        let r : (4096 - k) - 1 ≡ 4096 - suc k = omega arith in
        let t2 = ap (count a (suc k)) r in
        omega arith
      where
        tail_le : (b : ℕ → Cell) (j m : ℕ) → count b (suc j) (m - 1) ≤ count b j m
        tail_le b j zero = let v = count_zero b (suc j) in let u = count_zero b j in omega arith
        tail_le b j (suc m) = let v = count_step b j m in let u : suc m - 1 ≡ m = omega arith in let o = ap (count b (suc j)) u in omega arith

-- fewer cells from a later place on
count_tail : (a : ℕ → Cell) (k m n : ℕ) → count a (k + m) n ≤ count a k (m + n)
count_tail a k zero n = let p : k + 0 ≡ k = omega arith in let q : 0 + n ≡ n = omega arith in rw (p, q) (omega arith)
count_tail a k (suc m) n =
    let p : k + suc m ≡ suc k + m = omega arith in
    let q : suc m + n ≡ suc (m + n) = omega arith in
    let ih = count_tail a (suc k) m n in
    let x = count_step a k (m + n) in
    rw (p, q) (omega arith)

pub ahead_small : (f : Tally → Float → Tally) (s : ℕ) (a : ℕ → Cell) (ms : List Meaning) (lo n : ℕ) → s ≤ lo → count (ahead f s a ms) lo n ≤ count a 0 4096 + total ms
ahead_small f s a ms lo n le =
    let e : s + (lo - s) ≡ lo = omega arith in
    let x = count_ahead f s a ms (lo - s) n in
    let i = ap (λ d. count (ahead f s a ms) d n) e in
    let u = count_united f ms (s + (lo - s)) n in
    let w = ⊎_elim (λ lt. window lt) (λ ge. past ge) (cases_lt (lo - s) 4096) in
    omega (arith, w)
  where
    window : lo - s < 4096 → count a (lo - s) (4096 - (lo - s)) ≤ count a 0 4096
    window lt =
        let p : (lo - s) + (4096 - (lo - s)) ≡ 4096 = omega arith in
        let q : 0 + (lo - s) ≡ lo - s = omega arith in
        let t = count_tail a 0 (lo - s) (4096 - (lo - s)) in
        let t1 = ap (count a 0) p in
        let t2 = ap (λ d. count a d (4096 - (lo - s))) q in
        omega arith

    past : 4096 ≤ lo - s → count a (lo - s) (4096 - (lo - s)) ≤ count a 0 4096
    past ge = let p : 4096 - (lo - s) ≡ 0 = omega arith in let t = ap (count a (lo - s)) p in let z = count_zero a (lo - s) in omega arith
