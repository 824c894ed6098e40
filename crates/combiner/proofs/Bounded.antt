-- The estimate of a union is at most the number of documents.
use Rattle.std.proofs.Common.{◌≡◌, ℕ, ◌-◌, ◌*◌, ◌/◌, ◌^◌, ◌<◌, ◌≤◌, Bool, true, false, cond, T, sym, refl, ap, ◌∙◌, subst, mul_comm, mul-one, mul_right_comm, le_of_mul-le-mul_right, arith, le→leb, ltb-false}
use native.Mathlib.Nat.{div-le_of_le-mul, min-le_left}
use lib.Ieee.{Float, nan, inf, fin, binary64, up, down, lt, is_nan, of_int, of_bits, in_float, to_unsigned}
use lib.Ieee.Back.{round_whole, unsigned_back}
use lib.Ieee.Exact.{HasValue}
use lib.Ieee.Fits.{down_pos}
use Rattle.combiner.specs.Estimate.{zero, whole, within}

-- p / q is at most n if it is not above u / v, which is n
quotient_le : (p q u v n : ℕ) → 0 < v → u * 1 ≡ n * v → p * v ≤ u * q → p / q ≤ n
quotient_le p q u v n positive is le =
    let u_is : u ≡ n * v = sym (mul-one u) ∙ is in
    let crossed : p * v ≤ q * n * v = subst (λ k. p * v ≤ k) (ap (λ k. k * q) u_is ∙ mul_right_comm n v q ∙ ap (λ k. k * v) (mul_comm n q)) le in
    div-le_of_le-mul q (le_of_mul-le-mul_right crossed positive)

-- what is not above a value that is n has a whole part of at most n
not_above : (n : ℕ) (y : Float) → HasValue y false n 1 → (x : Float) → lt y x ≡ false → to_unsigned 32 x ≤ n
unfolding lt to_unsigned
not_above n nan is x e = absurd is
not_above n (inf s) is x e = absurd is
not_above n (fin s a c) is nan e = omega arith
not_above n (fin s a c) is (inf true) e = omega arith
not_above n (fin s a c) is (inf false) e = absurd (subst T e tt)
not_above n (fin s a c) is (fin true m d) e = omega arith
not_above n (fin true a c) is (fin false m d) e = absurd (subst T is.0 tt)
not_above n (fin false a c) is (fin false m d) e =
    let le = ltb-false (a * up c * down d) (m * up d * down c) e in
    let q = quotient_le (m * up d) (down d) (a * up c) (down c) n (down_pos c) is.1 le in
    omega (arith, min-le_left (m * up d / down d) (2 ^ 32 - 1))

-- a u32 is held exactly
whole_is : (n : ℕ) → n < 2 ^ 32 → HasValue (whole n) false n 1
unfolding of_int
whole_is n h = round_whole binary64 false n (omega arith)

whole_back : (n : ℕ) → n < 2 ^ 32 → to_unsigned 32 (whole n) ≡ n
unfolding in_float
whole_back n h = let le : n ≤ 2 ^ 53 = omega arith in (unsigned_back binary64 32 n (le→leb n (2 ^ 53) le) h).1

zero_back : to_unsigned 32 zero ≡ 0
unfolding to_unsigned of_bits
zero_back = refl

pub within_le : (n : ℕ) → n < 2 ^ 32 → (x : Float) → to_unsigned 32 (within (whole n) x) ≤ n
within_le n h x = by_nan (is_nan x)
  where
    at_most : (b : Bool) → lt (whole n) x ≡ b → to_unsigned 32 (cond b (whole n) x) ≤ n
    at_most true e = omega (arith, whole_back n h)
    at_most false e = not_above n (whole n) (whole_is n h) x e

    at_least : (b : Bool) → to_unsigned 32 (cond b zero (cond (lt (whole n) x) (whole n) x)) ≤ n
    at_least true = omega (arith, zero_back)
    at_least false = at_most (lt (whole n) x) refl

    by_nan : (b : Bool) → to_unsigned 32 (cond b (whole n) (cond (lt x zero) zero (cond (lt (whole n) x) (whole n) x))) ≤ n
    by_nan true = omega (arith, whole_back n h)
    by_nan false = at_least (lt x zero)
