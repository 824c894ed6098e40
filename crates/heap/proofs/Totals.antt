-- The patterns of scores stand in totalOrder as their depths do.
use Rattle.std.specs.Prelude.{◌≡◌, ℕ, zero, suc, ◌+◌, ◌-◌, ◌*◌, ◌/◌, ◌%◌, ◌^◌, ◌<◌, ◌≤◌, Bool, true, false, cond, not, ◌&&◌, ltb, ℤ, ◌==◌, nat_le, nat_lt, refl, Float}
use Rattle.std.specs.declared.cmp.Ordering.TheVariants.{Less, Equal, Greater}
use Rattle.std.specs.declared.cmp.Ordering.{Ordering}
use Rattle.std.specs.Ordering.{is_le, nat_cmp, ordering_reverse, ordering_then}
use Rattle.std.proofs.Common.{sym, ap, ◌∙◌, subst, ⊎_elim, zero-mul, mul_assoc, mul_right_comm, add-mul, mul-one, mul-pos, mul-le-mul_right, le_of_mul-le-mul_right, arith, pow_pos, pow_mono}
use Rattle.std.proofs.Math.Nat.{pow-succ'}
use Rattle.std.specs.Float.Ieee.{up, down, lt, below, is_nan, odd, of_fields, of_bits}
use Rattle.std.specs.Float.Ieee.Exact.{HasValue, odd_sign}
use Rattle.std.specs.Float.Ieee.Fits.{down_pos}
use Rattle.std.specs.Float.{is_sign_negative, total_cmp, nan, inf, fin, binary32}
use Rattle.std.proofs.lemmas.Bool.{cases_order, cases_lt, lt-ltb, le-ltb, ltb-false, eqb-true, eqb-false}
use Rattle.std.proofs.lemmas.Bool.Decides.{nat_tests}
use Rattle.heap.specs.Ranks.{lex}
use Rattle.heap.specs.Scores.{standing, ranked, depth}

-- the size of a finite score in units of the smallest one, by the field of its exponent and its digits
abbrev units : ℕ → ℕ → ℕ
units zero t = t
units (suc x) t = (8388608 + t) * 2 ^ x

-- the size of a score as its pattern has it
abbrev size : ℕ → ℕ → ℕ
size x t = x * 8388608 + t

-- the score v has the sign s and the two fields x and t
data Read : Float → Bool → ℕ → ℕ → Type 0 where
  no_number : {s : Bool} {x t : ℕ} → 2139095040 < size x t → Read nan s x t
  infinite : {s : Bool} {x t : ℕ} → size x t ≡ 2139095040 → Read (inf s) s x t
  finite : {s : Bool} {m : ℕ} {e : ℤ} {x t : ℕ} → size x t < 2139095040 → t < 8388608 → m * up e * 2 ^ 149 ≡ units x t * down e → Read (fin s m e) s x t

read_value : (v : Float) (s : Bool) (x t : ℕ) → size x t < 2139095040 → t < 8388608 → HasValue v s (units x t) (2 ^ 149) → Read v s x t
read_value nan s x t l u h = absurd h
read_value (inf r) s x t l u h = absurd h
read_value (fin r m e) s x t l u h = subst (λ q. Read (fin q m e) s x t) (sym h.0) (finite l u h.1)

read_fields : (s : Bool) (x t : ℕ) → x < 256 → t < 8388608 → Read (of_fields binary32 s x t) s x t
unfolding of_fields
read_fields s zero t hx ht = read_value (odd 24 s t 0 149) s 0 t (omega arith) ht (subst (λ n. HasValue (odd 24 s t 0 149) s n (2 ^ 149)) (mul-one t) (odd_sign 24 s t 0 149))
read_fields s (suc x) t hx ht = by_tests (suc x == 255) (t == 0) refl refl
  where
    by_tests : (a b : Bool) → (suc x == 255) ≡ a → (t == 0) ≡ b → Read (cond a (cond b (inf s) nan) (odd 24 s (8388608 + t) x 149)) s (suc x) t
    by_tests true true p q = infinite (omega (arith, eqb-true (suc x) 255 p, eqb-true t 0 q))
    by_tests true false p q = let n = eqb-false t 0 q in no_number (omega (arith, eqb-true (suc x) 255 p))
    by_tests false b p q = let n = eqb-false (suc x) 255 p in read_value (odd 24 s (8388608 + t) x 149) s (suc x) t (omega arith) ht (odd_sign 24 s (8388608 + t) x 149)

read_bits : (b : ℕ) → Read (of_bits binary32 b) (nat_le 2147483648 b) (b % 2147483648 / 8388608) (b % 8388608)
unfolding of_bits
read_bits b = read_fields (nat_le 2147483648 b) (b % 2147483648 / 8388608) (b % 8388608) (omega arith) (omega arith)

size_is : (b : ℕ) → size (b % 2147483648 / 8388608) (b % 8388608) ≡ b % 2147483648
size_is b = omega arith

-- ---- units and sizes are in one order

units_under : (x t : ℕ) → t < 8388608 → units x t < 8388608 * 2 ^ x
units_under zero t h = omega arith
units_under (suc x) t h =
    let m : (8388608 + t + 1) * 2 ^ x ≤ 16777216 * 2 ^ x = mul-le-mul_right (2 ^ x) (omega arith) in
    omega (arith, m, add-mul (8388608 + t) 1 (2 ^ x), pow_pos x, pow-succ' 2 x)

units_over : (x y u : ℕ) → x ≤ y → 8388608 * 2 ^ x ≤ units (suc y) u
units_over x y u h = let p : 2 ^ x ≤ 2 ^ y = pow_mono h in omega (arith, add-mul 8388608 u (2 ^ y))

units_beside : (x t u : ℕ) → t < u → units x t < units x u
units_beside zero t u h = h
units_beside (suc x) t u h =
    let m : (8388608 + t + 1) * 2 ^ x ≤ (8388608 + u) * 2 ^ x = mul-le-mul_right (2 ^ x) (omega arith) in
    omega (arith, m, add-mul (8388608 + t) 1 (2 ^ x), pow_pos x)

units_rise : (x t y u : ℕ) → t < 8388608 → u < 8388608 → size x t < size y u → units x t < units y u
units_rise x t zero u ht hu h = let e : x ≡ 0 = omega arith in rw e (omega arith)
units_rise x t (suc y) u ht hu h = ⊎_elim
    (λ e. rw e (units_beside (suc y) t u (omega arith)))
    (⊎_elim (λ l. let p = units_under x t ht in let q = units_over x y u (omega arith) in omega arith) (λ l. absurd (omega arith)))
    (cases_order x (suc y))

module _ (x t y u : ℕ) (ht : t < 8388608) (hu : u < 8388608) where
  units_order : ltb (units x t) (units y u) ≡ nat_lt (size x t) (size y u)
  units_order = ⊎_elim
      (λ e. let p : x ≡ y = omega arith in let q : t ≡ u = omega arith in let r : units x t ≡ units y u = (λ k. units (p k) (q k)) in le-ltb _ _ (omega arith) ∙ sym (le-ltb (size x t) (size y u) (omega arith)))
      (⊎_elim
      (λ l. lt-ltb _ _ (units_rise x t y u ht hu l) ∙ sym (lt-ltb _ _ l))
      (λ l. let r = units_rise y u x t hu ht l in le-ltb _ _ (omega arith) ∙ sym (le-ltb (size x t) (size y u) (omega arith))))
      (cases_order (size x t) (size y u))

  units_some : ltb 0 (units x t + units y u) ≡ nat_lt 0 (size x t + size y u)
  units_some = ⊎_elim
      (λ l. lt-ltb _ _ (⊎_elim (λ m. let p = units_rise 0 0 x t (omega arith) ht m in omega arith) (λ m. let p = units_rise 0 0 y u (omega arith) hu (omega arith) in omega arith) (cases_lt 0 (size x t))) ∙ sym (lt-ltb _ _ l))
      (λ l. let p : x ≡ 0 = omega arith in let q : y ≡ 0 = omega arith in let r : units x t ≡ t = ap (λ n. units n t) p in let v : units y u ≡ u = ap (λ n. units n u) q in le-ltb _ _ (omega arith) ∙ sym (le-ltb 0 (size x t + size y u) (omega arith)))
      (cases_lt 0 (size x t + size y u))

-- two fractions of one denominator, in other units
scaled_le : (a b u v c d : ℕ) → 0 < c → a * c ≡ u * d → b * c ≡ v * d → u ≤ v → a ≤ b
scaled_le a b u v c d h p q l = let m : u * d ≤ v * d = mul-le-mul_right d l in let n : a * c ≤ b * c = omega arith in le_of_mul-le-mul_right n h

scaled : (a b u v c d : ℕ) → 0 < c → 0 < d → a * c ≡ u * d → b * c ≡ v * d → nat_lt a b ≡ nat_lt u v
scaled a b u v c d hc hd p q = ⊎_elim
    (λ l. ⊎_elim (λ m. lt-ltb a b m) (λ m. absurd (let n = scaled_le v u b a d c hd (sym q) (sym p) m in omega arith)) (cases_lt a b) ∙ sym (lt-ltb u v l))
    (λ l. le-ltb a b (scaled_le b a v u c d hc q p l) ∙ sym (le-ltb u v l))
    (cases_lt u v)

below_same : (s r : Bool) (a b p q : ℕ) → nat_lt a b ≡ nat_lt p q → nat_lt b a ≡ nat_lt q p → nat_lt 0 (a + b) ≡ nat_lt 0 (p + q) → below s a r b ≡ below s p r q
below_same false false a b p q e f g = e
below_same false true a b p q e f g = refl
below_same true false a b p q e f g = g
below_same true true a b p q e f g = f

finite_below : (s r : Bool) (m n : ℕ) (e d : ℤ) (x t y u : ℕ) → t < 8388608 → u < 8388608 → m * up e * 2 ^ 149 ≡ units x t * down e → n * up d * 2 ^ 149 ≡ units y u * down d
    → below s (m * up e * down d) r (n * up d * down e) ≡ below s (size x t) r (size y u)
finite_below s r m n e d x t y u ht hu p q =
    let a = m * up e * down d in
    let b = n * up d * down e in
    let c = down e * down d in
    let i = units x t in
    let j = units y u in
    let hc : 0 < 2 ^ 149 = pow_pos 149 in
    let hd : 0 < c = mul-pos (down_pos e) (down_pos d) in
    let f : a * 2 ^ 149 ≡ i * c = mul_right_comm (m * up e) (down d) (2 ^ 149) ∙ ap (λ z. z * down d) p ∙ mul_assoc i (down e) (down d) in
    let g : b * 2 ^ 149 ≡ j * c = mul_right_comm (n * up d) (down e) (2 ^ 149) ∙ ap (λ z. z * down e) q ∙ mul_right_comm j (down d) (down e) ∙ mul_assoc j (down e) (down d) in
    let h : (a + b) * 2 ^ 149 ≡ (i + j) * c = add-mul a b (2 ^ 149) ∙ (λ k. f k + g k) ∙ sym (add-mul i j c) in
    below_same s r a b (size x t) (size y u)
    (scaled a b i j (2 ^ 149) c hc hd f g ∙ units_order x t y u ht hu)
    (scaled b a j i (2 ^ 149) c hc hd g f ∙ units_order y u x t hu ht)
    (scaled 0 (a + b) 0 (i + j) (2 ^ 149) c hc hd (sym (zero-mul c)) h ∙ units_some x t y u ht hu)

-- ---- what a comparison says of two patterns

lt_read : {v w : Float} {s r : Bool} {x t y u : ℕ} → Read v s x t → Read w r y u → size x t ≤ 2139095040 → size y u ≤ 2139095040 → lt v w ≡ below s (size x t) r (size y u)
unfolding lt
lt_read (no_number l) b p q = absurd (omega arith)
lt_read (infinite e) (no_number l) p q = absurd (omega arith)
lt_read {s = s} {r = r} {x = x} {t = t} {y = y} {u = u} (infinite e) (infinite f) p q = go s r
  where
    go : (s r : Bool) → (s && not r) ≡ below s (size x t) r (size y u)
    go false false = sym (le-ltb _ _ (omega arith))
    go false true = refl
    go true false = sym (lt-ltb 0 (size x t + size y u) (omega arith))
    go true true = sym (le-ltb _ _ (omega arith))
lt_read {s = s} {r = r} {x = x} {t = t} {y = y} {u = u} (infinite e) (finite l k f) p q = go s r
  where
    go : (s r : Bool) → s ≡ below s (size x t) r (size y u)
    go false false = sym (le-ltb _ _ (omega arith))
    go false true = refl
    go true false = sym (lt-ltb 0 (size x t + size y u) (omega arith))
    go true true = sym (lt-ltb _ _ (omega arith))
lt_read (finite l k e) (no_number m) p q = absurd (omega arith)
lt_read {s = s} {r = r} {x = x} {t = t} {y = y} {u = u} (finite l k e) (infinite f) p q = go s r
  where
    go : (s r : Bool) → not r ≡ below s (size x t) r (size y u)
    go false false = sym (lt-ltb _ _ (omega arith))
    go false true = refl
    go true false = sym (lt-ltb 0 (size x t + size y u) (omega arith))
    go true true = sym (le-ltb _ _ (omega arith))
lt_read {s = s} {r = r} {x = x} {t = t} {y = y} {u = u} (finite {m = m} {e = d} l k e) (finite {m = n} {e = g} l' k' f) p q = finite_below s r m n d g x t y u k k' e f

negative_read : {v : Float} {s : Bool} {x t : ℕ} → Read v s x t → size x t ≤ 2139095040 → is_sign_negative v ≡ s
unfolding is_sign_negative
negative_read (no_number l) p = absurd (omega arith)
negative_read (infinite e) p = refl
negative_read (finite l k e) p = refl

nan_read : {v : Float} {s : Bool} {x t : ℕ} → Read v s x t → is_nan v ≡ nat_lt 2139095040 (size x t)
unfolding is_nan
nan_read {x = x} {t = t} (no_number l) = sym (lt-ltb 2139095040 (size x t) l)
nan_read {x = x} {t = t} (infinite e) = sym (le-ltb 2139095040 (size x t) (omega arith))
nan_read {x = x} {t = t} (finite l k e) = sym (le-ltb 2139095040 (size x t) (omega arith))

-- ---- totalOrder, by the sign and the size of each pattern

abbrev total : Bool → ℕ → Bool → ℕ → Ordering
total s p r q = cond (below s p r q) Less (cond (below r q s p) Greater (cond s (cond r Equal Less) (cond r Greater Equal)))

abbrev stand : Bool → Bool → Ordering → Ordering
stand a b o = cond a (cond b Equal Greater) (cond b Less o)

stand_same : (a b : Bool) (o o' : Ordering) → (a ≡ false → b ≡ false → o ≡ o') → stand a b o ≡ stand a b o'
stand_same true b o o' h = refl
stand_same false true o o' h = refl
stand_same false false o o' h = h refl refl

total_read : {v w : Float} {s r : Bool} {x t y u : ℕ} → Read v s x t → Read w r y u → size x t ≤ 2139095040 → size y u ≤ 2139095040 → total_cmp v w ≡ total s (size x t) r (size y u)
total_read a b p q = λ k. cond (lt_read a b p q k) Less (cond (lt_read b a q p k) Greater (cond (negative_read a p k) (cond (negative_read b q k) Equal Less) (cond (negative_read b q k) Greater Equal)))

standing_is : (a b : ℕ) → standing (of_bits binary32 a) (of_bits binary32 b)
    ≡ stand (nat_lt 2139095040 (a % 2147483648)) (nat_lt 2139095040 (b % 2147483648)) (total (nat_le 2147483648 a) (a % 2147483648) (nat_le 2147483648 b) (b % 2147483648))
standing_is a b =
    let v = of_bits binary32 a in
    let w = of_bits binary32 b in
    let e = size_is a in
    let f = size_is b in
    let m : is_nan v ≡ ltb 2139095040 (a % 2147483648) = nan_read (read_bits a) ∙ ap (λ z. ltb 2139095040 z) e in
    let n : is_nan w ≡ ltb 2139095040 (b % 2147483648) = nan_read (read_bits b) ∙ ap (λ z. ltb 2139095040 z) f in
    (λ k. stand (m k) (n k) (total_cmp v w))
    ∙ stand_same _ _ _ _ (λ g h.
    let p = ltb-false 2139095040 (a % 2147483648) g in
    let q = ltb-false 2139095040 (b % 2147483648) h in
    total_read (read_bits a) (read_bits b) (omega arith) (omega arith) ∙ (λ k. total (nat_le 2147483648 a) (e k) (nat_le 2147483648 b) (f k)))

reversed_is : (s r : Bool) (a b p q : ℕ) → nat_le 2147483648 a ≡ s → nat_le 2147483648 b ≡ r → p < 2147483648 → q < 2147483648
    → ordering_reverse (stand (nat_lt 2139095040 p) (nat_lt 2139095040 q) (total s p r q))
    ≡ nat_cmp (cond (nat_lt 2139095040 p) 4194303 (cond (nat_lt a 2147483648) (2147483647 - p) (2147483648 + p))) (cond (nat_lt 2139095040 q) 4194303 (cond (nat_lt b 2147483648) (2147483647 - q) (2147483648 + q)))
reversed_is false false a b p q e f g h = grind (arith, nat_tests)
reversed_is false true a b p q e f g h = grind (arith, nat_tests)
reversed_is true false a b p q e f g h = grind (arith, nat_tests)
reversed_is true true a b p q e f g h = grind (arith, nat_tests)

-- the higher score has the lower depth
pub standing_depth : (a b : ℕ) → ordering_reverse (standing (of_bits binary32 a) (of_bits binary32 b)) ≡ nat_cmp (depth a) (depth b)
standing_depth a b = ap ordering_reverse (standing_is a b) ∙ reversed_is _ _ a b (a % 2147483648) (b % 2147483648) refl refl (omega arith) (omega arith)

ranked_is : (s r : Bool) (a b p q i j : ℕ) → nat_le 2147483648 a ≡ s → nat_le 2147483648 b ≡ r → p < 2147483648 → q < 2147483648
    → ranked (stand (nat_lt 2139095040 p) (nat_lt 2139095040 q) (total s p r q)) i j
    ≡ lex (cond (nat_lt 2139095040 p) 4194303 (cond (nat_lt a 2147483648) (2147483647 - p) (2147483648 + p))) i (cond (nat_lt 2139095040 q) 4194303 (cond (nat_lt b 2147483648) (2147483647 - q) (2147483648 + q))) j
ranked_is s r a b p q i j e f g h = ap (λ o. is_le (ordering_then o (nat_cmp i j))) (reversed_is s r a b p q e f g h)

-- hits rank as their depths and ids do
pub ranked_depth : (a b i j : ℕ) → ranked (standing (of_bits binary32 a) (of_bits binary32 b)) i j ≡ lex (depth a) i (depth b) j
ranked_depth a b i j = ap (λ o. ranked o i j) (standing_is a b) ∙ ranked_is _ _ a b (a % 2147483648) (b % 2147483648) i j refl refl (omega arith) (omega arith)
