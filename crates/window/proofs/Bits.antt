-- The lowest bit of a word taken out.
use Rattle.std.proofs.Common.{◌≡◌, ℕ, suc, ◌+◌, ◌-◌, ◌*◌, ◌/◌, ◌%◌, ◌^◌, ◌<◌, ◌≤◌, sym, ap, ◌∙◌, ⊎_elim, add-mul, arith}
use lib.Bits.{bit_and}
use mir.Syntax.{w64}
use Rattle.std.specs.Int.{trailing_zeros}
use Rattle.std.proofs.lemmas.Nat.{pow_pos, shr-shr}
use Rattle.std.proofs.lemmas.Nat.Bits.{bit_at-suc, bit_at-zero, bit_at_and, bit_at_cat_low, bit_at_cat_high, bit_at-trailing_zeros, same_from_bits_below}
use Rattle.std.proofs.lemmas.Bool.{cases_lt}
use Rattle.window.specs.Slots.{bit, Popped}

-- a number whose bits below t are 0 is a multiple of 2 ^ t
whole : (w t : ℕ) → ((i : ℕ) → i < t → bit w i ≡ 0) → w ≡ w / 2 ^ t * 2 ^ t
whole w t h =
    let p = pow_pos t in
    let e : w / 2 ^ t * 2 ^ t + w % 2 ^ t ≡ w = omega arith in
    let z = same_from_bits_below t (w % 2 ^ t) 0 (omega arith) (omega arith)
    (λ i lt. sym (bit_at_cat_low (w / 2 ^ t) t (w % 2 ^ t) i lt) ∙ ap (λ (x : ℕ). bit x i) e ∙ h i lt ∙ sym (bit_at-zero i)) in
    omega arith

-- x * 2 ^ t - 1 has the bits of x - 1 from t on
bit_pred : (x t i : ℕ) → 0 < x → t ≤ i → bit (x * 2 ^ t - 1) i ≡ bit (x - 1) (i - t)
bit_pred x t i h le =
    let p = pow_pos t in
    let o : x - 1 + 1 ≡ x = omega arith in
    let d = add-mul (x - 1) 1 (2 ^ t) in
    let m = ap (λ (y : ℕ). y * 2 ^ t) o in
    let e : x * 2 ^ t - 1 ≡ (x - 1) * 2 ^ t + (2 ^ t - 1) = omega arith in
    ap (λ (y : ℕ). bit y i) e ∙ bit_at_cat_high (x - 1) t (2 ^ t - 1) i (omega arith) le

-- w & (w - 1) takes out the lowest bit
pub popped : (w : ℕ) → 0 < w → w < 2 ^ 64 → Popped w (trailing_zeros w64 w) (bit_and w (w - 1))
popped w p h = record {
  inside = low.0;
  was = low.1;
  below = low.2;
  here = bit_at_and w (w - 1) t ∙ (let z = at in omega arith);
  others = λ j ne. bit_at_and w (w - 1) j ∙ ⊎_elim (λ lt. let z = low.2 j lt in omega arith) (λ ge. let s = above j (omega (arith, ne)) in omega arith) (cases_lt j t);
}
  where
    t : ℕ
    t = trailing_zeros w64 w

    low : (t < 64) × (bit w t ≡ 1) × ((i : ℕ) → i < t → bit w i ≡ 0)
    low = bit_at-trailing_zeros w64 w p h

    x : ℕ
    x = w / 2 ^ t

    pred_bit : (j : ℕ) → t ≤ j → bit (w - 1) j ≡ bit (x - 1) (j - t)
    pred_bit j le = let o = low.1 in ap (λ (y : ℕ). bit (y - 1) j) (whole w t low.2) ∙ bit_pred x t j (omega arith) le

    at : bit (w - 1) t ≡ 0
    at =
        let o = low.1 in
        let q : t - t ≡ 0 = omega arith in
        pred_bit t (omega arith) ∙ ap (bit (x - 1)) q ∙ omega arith

    above : (j : ℕ) → t < j → bit (w - 1) j ≡ bit w j
    above j lt =
        let i : ℕ = j - t - 1 in
        let o = low.1 in
        let q : j - t ≡ suc i = omega arith in
        let r : t + suc i ≡ j = omega arith in
        let y : (x - 1) / 2 ≡ x / 2 = omega arith in
        pred_bit j (omega arith) ∙ ap (bit (x - 1)) q ∙ bit_at-suc (x - 1) i ∙ ap (λ (z : ℕ). bit z i) y ∙ sym (bit_at-suc x i) ∙
        ap (λ (z : ℕ). z % 2) (shr-shr w t (suc i)) ∙ ap (bit w) r
