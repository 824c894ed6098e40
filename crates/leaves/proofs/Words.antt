-- Bits of words: the lowest that is set, and where the words' bits lie among the ids.
use Rattle.std.proofs.Common.{slice_get, ◌≡◌, ℕ, zero, suc, ◌+◌, ◌-◌, ◌*◌, ◌/◌, ◌%◌, ◌^◌, ◌<◌, ◌≤◌, false, eqb, List, length, get_or, Some, None, sym, refl, ap, ◌∙◌, subst, ⊎_elim, pow-suc, one-add, arith}
use native.Mathlib.Nat.{div-eq_of_lt}
use lib.Count.{count_trailing_zeros, under}
use Rattle.std.proofs.lemmas.Nat.{pow_pos, shr-shr, div-mul-add, mod-mul-add, pow_below}
use Rattle.std.proofs.lemmas.List.{get_or_past}
use Rattle.std.proofs.lemmas.Bool.{cases_lt}
use Rattle.docset.specs.Bits.{bit_set}
use Rattle.leaves.specs.Ranges.{between}
use Rattle.leaves.specs.Bits.{bit_of, bits_from}
use Rattle.leaves.proofs.Ranges.{first_is, none_is, none_between, some_between, between_skip, between_end}

-- ---- the lowest bit of a word

pub record LowestAt (w t : ℕ) : Type 0 where
  pub here : w / 2 ^ t % 2 ≡ 1
  pub below : (j : ℕ) → j < t → w / 2 ^ j % 2 ≡ 0

halve : (w j : ℕ) → w / 2 ^ suc j ≡ w / 2 / 2 ^ j
halve w j = sym (rw one-add at (shr-shr w 1 j))

lowest_even : (w t : ℕ) → w % 2 ≡ 0 → LowestAt (w / 2) t → LowestAt w (suc t)
lowest_even w t e h =
    record {
      here = ap (λ (x : ℕ). x % 2) (halve w t) ∙ h.here;
      below = λ j. under_it j;
    }
  where
    under_it : (j : ℕ) → j < suc t → w / 2 ^ j % 2 ≡ 0
    under_it zero l = omega arith
    under_it (suc j) l = ap (λ (x : ℕ). x % 2) (halve w j) ∙ h.below j (omega arith)

pub lowest : (k w : ℕ) → 0 < w → w < 2 ^ k → LowestAt w (count_trailing_zeros k w)
unfolding count_trailing_zeros
lowest zero w p h = absurd (omega arith)
lowest (suc k) w p h = by_digit (w % 2) refl (lowest k (w / 2))
  where
    by_digit : (r : ℕ) → w % 2 ≡ r → (0 < w / 2 → w / 2 < 2 ^ k → LowestAt (w / 2) (count_trailing_zeros k (w / 2))) → LowestAt w (under r (count_trailing_zeros k (w / 2)))
    by_digit zero e ih =
        let d = pow-suc 2 k in lowest_even w (count_trailing_zeros k (w / 2)) e (ih (omega arith) (omega arith))
    by_digit (suc r) e ih = record { here = omega arith; below = λ j l. absurd (omega arith) }

-- a word shifted down has no bit above those that it had
low_shift : (w r t : ℕ) → w < 2 ^ 64 → w / 2 ^ r / 2 ^ t % 2 ≡ 1 → r + t < 64
low_shift w r t h e =
    ⊎_elim {C = r + t < 64} (λ l. l)
    (λ l.
    let p : w < 2 ^ (r + t) = above l in
    let z : w / 2 ^ r / 2 ^ t ≡ 0 = shr-shr w r t ∙ div-eq_of_lt p in
    absurd (omega (arith, z, e)))
    (cases_lt (r + t) 64)
  where
    above : 64 ≤ r + t → w < 2 ^ (r + t)
    above l =
        ⊎_elim {C = w < 2 ^ (r + t)}
        (λ s. let q = pow_below 64 (r + t) s in omega arith)
        (λ s. let q : r + t ≡ 64 = omega arith in subst (λ (x : ℕ). w < 2 ^ x) (sym q) h)
        (cases_lt 64 (r + t))

-- the search for the lowest bit of a word from r on
pub word_none : (w r : ℕ) → w < 2 ^ 64 → w / 2 ^ r ≡ 0 → slice_get (between (bit_of w) r 64) 0 ≡ None
word_none w r h e =
    none_is (bit_of w) r 64
    (λ k a b.
    let i : r + (k - r) ≡ k = omega arith in
    let z : w / 2 ^ k ≡ 0 / 2 ^ (k - r) = ap (λ (x : ℕ). w / 2 ^ x) (sym i) ∙ sym (shr-shr w r (k - r)) ∙ ap (λ (x : ℕ). x / 2 ^ (k - r)) e in
    let y : 0 / 2 ^ (k - r) ≡ 0 = div-eq_of_lt (pow_pos (k - r)) in
    ap (λ (x : ℕ). eqb (x % 2) 1) (z ∙ y))

pub word_some :
    (w r : ℕ) → w < 2 ^ 64 → 0 < w / 2 ^ r → w / 2 ^ r < 2 ^ 64 →
    slice_get (between (bit_of w) r 64) 0 ≡ Some (r + count_trailing_zeros 64 (w / 2 ^ r))
word_some w r h p q =
    let t : ℕ = count_trailing_zeros 64 (w / 2 ^ r) in
    let l = lowest 64 (w / 2 ^ r) p q in
    let lt = low_shift w r t h l.here in
    first_is (bit_of w) r 64 (r + t)
    (record {
      low = omega arith;
      high = lt;
      passes = ap (λ (x : ℕ). eqb (x % 2) 1) (sym (shr-shr w r t)) ∙ ap (λ (x : ℕ). eqb x 1) l.here;
      before = λ k a b.
          let i : r + (k - r) ≡ k = omega arith in
          ap (λ (x : ℕ). eqb (w / 2 ^ x % 2) 1) (sym i) ∙
          ap (λ (x : ℕ). eqb (x % 2) 1) (sym (shr-shr w r (k - r))) ∙
          ap (λ (x : ℕ). eqb x 1) (l.below (k - r) (omega arith));
    })

-- ---- words among the ids

-- bit j of the word at place p is that of the id p * 64 + j
pub bit_at : (ws : List ℕ) (p j : ℕ) → j < 64 → bit_set ws (p * 64 + j) ≡ bit_of (get_or ws p 0) j
bit_at ws p j h =
    let d = div-mul-add p 64 j h in
    let m = mod-mul-add p 64 j h in
    ap (λ (x : ℕ). eqb (get_or ws x 0 / 2 ^ ((p * 64 + j) % 64) % 2) 1) d ∙
    ap (λ (x : ℕ). eqb (get_or ws p 0 / 2 ^ x % 2) 1) m

-- past the words no bit is set
pub bit_past : (ws : List ℕ) (d : ℕ) → 64 * length ws ≤ d → bit_set ws d ≡ false
bit_past ws d h =
    let e : get_or ws (d / 64) 0 ≡ 0 = get_or_past ws (d / 64) 0 (omega arith) in
    let z : 0 / 2 ^ (d % 64) ≡ 0 = div-eq_of_lt (pow_pos (d % 64)) in
    ap (λ (x : ℕ). eqb (x / 2 ^ (d % 64) % 2) 1) e ∙ ap (λ (x : ℕ). eqb (x % 2) 1) z

-- an id by its word and bit
split_id : (p k : ℕ) → p * 64 ≤ k → p * 64 + (k - p * 64) ≡ k
split_id p k h = omega arith

-- a word without a bit from r on is passed whole
pub word_passed :
    (ws : List ℕ) (p r : ℕ) → r < 64 → slice_get (between (bit_of (get_or ws p 0)) r 64) 0 ≡ None →
    bits_from ws (p * 64 + r) ≡ bits_from ws (suc p * 64)
word_passed ws p r h e =
    between_skip (bit_set ws) (p * 64 + r) (suc p * 64) (64 * length ws) (omega arith)
    (λ k a b.
    ap (bit_set ws) (sym (split_id p k (omega arith))) ∙ bit_at ws p (k - p * 64) (omega arith) ∙
    none_between (bit_of (get_or ws p 0)) r 64 e (k - p * 64) (omega arith) (omega arith))

-- a word with a bit from r on has the first id
pub word_found :
    (ws : List ℕ) (p r x : ℕ) → p < length ws → r < 64 → slice_get (between (bit_of (get_or ws p 0)) r 64) 0 ≡ Some x →
    slice_get (bits_from ws (p * 64 + r)) 0 ≡ Some (p * 64 + x)
word_found ws p r x l h e =
    let f = some_between (bit_of (get_or ws p 0)) r 64 x e in
    first_is (bit_set ws) (p * 64 + r) (64 * length ws) (p * 64 + x)
    (record {
      low = omega (arith, f.low);
      high = omega (arith, f.high);
      passes = bit_at ws p x f.high ∙ f.passes;
      before = λ k a b.
          ap (bit_set ws) (sym (split_id p k (omega arith))) ∙ bit_at ws p (k - p * 64) (omega (arith, f.high)) ∙
          f.before (k - p * 64) (omega arith) (omega arith);
    })

pub words_end : (ws : List ℕ) (p r : ℕ) → length ws ≤ p → slice_get (bits_from ws (p * 64 + r)) 0 ≡ None
words_end ws p r h = ap (λ (l : List ℕ). slice_get l 0) (between_end (bit_set ws) (p * 64 + r) (64 * length ws) (omega arith))
