-- Slots of words in a row: a bit set, a word emptied, the first word that is not empty; and the tallies that stay at rest beside them.
use Rattle.std.proofs.Common.{◌≡◌, ℕ, ◌+◌, ◌-◌, ◌*◌, ◌/◌, ◌%◌, ◌^◌, ◌<◌, ◌≤◌, ◌≢◌, ◌⊎◌, List, length, get_or, drop, set, replicate, false, nat_lt, Some, None, Option, position, sym, refl, ap, ◌∙◌, subst, ⊎_elim, arith, rules, length-set, get_or-set_other, get_or-set_same}
use native.Mathlib.Nat.{zero-div}
use lib.Bits.{bit_or}
use Rattle.std.proofs.lemmas.Nat.Bits.{bit_at_set_same, bit_at_set_other}
use mir.Syntax.{w64}
use borrow.Rule.Slice.PartMut.{put_mid}
use Rattle.std.proofs.lemmas.List.{get_or_past, get_or-drop, length-drop, places}
use Rattle.std.proofs.lemmas.List.Quantifiers.{position-Some}
use Rattle.std.proofs.lemmas.List.Sums.{fails_before_first}
use Rattle.std.specs.List.{between, position_or_len}
use Rattle.std.proofs.lemmas.Slice.{between_to_end}
use Rattle.std.proofs.lemmas.Bool.{cases_eq, cases_lt, cases_Bool, cond-true, ltb-true, ltb-false}
use Rattle.combiner.specs.declared.score_combiner.Tally.{Tally}
use Rattle.combiner.specs.Scores.{start}
use Rattle.window.specs.Slots.{slot, blank, AtRest, Outside}

-- no slot below lo is set
abbrev pub Behind : List ℕ → ℕ → Type 0
Behind ws lo = (k : ℕ) → k < lo → slot ws k ≡ 0

-- ---- one word changed

-- the slots of the other words stay
slot_other : (ws : List ℕ) (j w e : ℕ) → (e / 64 ≡ j → ⊥) → slot (set ws j w) e ≡ slot ws e
slot_other ws j w e ne = let n : e / 64 ≢ j = ne in rw get_or-set_other refl

-- the slots of an empty word
pub slot_empty : (ws : List ℕ) (e : ℕ) → get_or ws (e / 64) 0 ≡ 0 → slot ws e ≡ 0
slot_empty ws e z = let d = zero-div (2 ^ (e % 64)) in rw z (simp d)

-- a word that is emptied
pub slot_emptied : (ws : List ℕ) (j e : ℕ) → e / 64 ≡ j → slot (set ws j 0) e ≡ 0
slot_emptied ws j e q = slot_empty (set ws j 0) e (ap (λ (x : ℕ). get_or (set ws j 0) x 0) q ∙ ⊎_elim inside outside (cases_lt j (length ws)))
  where
    inside : j < length ws → get_or (set ws j 0) j 0 ≡ 0
    inside lt = rw get_or-set_same

    outside : length ws ≤ j → get_or (set ws j 0) j 0 ≡ 0
    outside le = get_or_past (set ws j 0) j 0 (rw length-set le)

-- vs is ws with the slot d set
pub record Inserted (ws : List ℕ) (d : ℕ) (vs : List ℕ) : Type 0 where
  pub here : slot vs d ≡ 1
  pub others : (e : ℕ) → (e ≡ d → ⊥) → slot vs e ≡ slot ws e

-- `words[d / 64] |= 1 << (d % 64)`
pub inserted : (ws : List ℕ) (d : ℕ) → d / 64 < length ws → Inserted ws d (set ws (d / 64) (bit_or (get_or ws (d / 64) 0) (1 * 2 ^ (d % 64) % 2 ^ 64)))
inserted ws d lt = record {
  here = rw get_or-set_same (bit_at_set_same w64 (get_or ws (d / 64) 0) (d % 64) (omega arith));
  others = λ e ne. ⊎_elim (same e ne) (slot_other ws (d / 64) _ e) (cases_eq (e / 64) (d / 64));
}
  where
    same : (e : ℕ) → (e ≡ d → ⊥) → e / 64 ≡ d / 64 → slot (set ws (d / 64) (bit_or (get_or ws (d / 64) 0) (1 * 2 ^ (d % 64) % 2 ^ 64))) e ≡ slot ws e
    same e ne q =
        let n : e % 64 ≡ d % 64 → ⊥ = λ p. omega (arith, ne) in
        simp q (rw get_or-set_same (bit_at_set_other w64 (get_or ws (d / 64) 0) (d % 64) (omega arith) (e % 64) n))

-- ---- what is behind

-- past a word that is emptied
pub behind_more : (ws : List ℕ) (b : ℕ) → Behind ws (b * 64) → Behind (set ws b 0) ((b + 1) * 64)
behind_more ws b h k lt = ⊎_elim (slot_emptied ws b k) (λ n. slot_other ws b 0 k n ∙ h k (omega (arith, n))) (cases_eq (k / 64) b)

empty_from : (ws : List ℕ) (b k : ℕ) → b * 64 ≤ k → nat_lt 0 (get_or (drop b ws) (k / 64 - b) 0) ≡ false → get_or ws (k / 64) 0 ≡ 0
empty_from ws b k ge f =
    let e : b + (k / 64 - b) ≡ k / 64 = omega arith in
    let n = ltb-false 0 _ f in
    ap (λ (x : ℕ). get_or ws x 0) (sym e) ∙ sym (get_or-drop b ws (k / 64 - b) 0) ∙ omega arith

-- what is found in `words[b..]` is found in what is left of the words
found : (ws : List ℕ) (b : ℕ) (r : Option ℕ) → length ws ≡ 64 → position (nat_lt 0) (between b 64 ws) ≡ r → position (nat_lt 0) (drop b ws) ≡ r
found ws b r n p = sym (ap (position (nat_lt 0)) (between_to_end ws b 64 (omega arith))) ∙ p

-- the first word that is not empty
pub first_some : (ws : List ℕ) (b i : ℕ) → length ws ≡ 64 → position (nat_lt 0) (between b 64 ws) ≡ Some i → 0 < get_or ws (b + i) 0
first_some ws b i n p =
    let at = position-Some (nat_lt 0) (drop b ws) i 0 (found ws b _ n p) in
    rw get_or-drop at (ltb-true 0 _ at.1)

-- the words before it have no slot that is set
pub behind_first : (ws : List ℕ) (b i : ℕ) → length ws ≡ 64 → Behind ws (b * 64) → position (nat_lt 0) (between b 64 ws) ≡ Some i → Behind ws ((b + i) * 64)
behind_first ws b i n h p k lt =
    let at = position-Some (nat_lt 0) (drop b ws) i 0 (found ws b _ n p) in
    ⊎_elim (h k) (λ ge. slot_empty ws k (empty_from ws b k ge (at.2 (k / 64 - b) (omega arith)))) (cases_lt k (b * 64))

-- no word has one
pub behind_all : (ws : List ℕ) (b : ℕ) → length ws ≡ 64 → Behind ws (b * 64) → position (nat_lt 0) (between b 64 ws) ≡ None → Behind ws 4096
behind_all ws b n h p k lt = ⊎_elim (h k) (λ ge. slot_empty ws k (empty_from ws b k ge (before ge))) (cases_lt k (b * 64))
  where
    xs : List ℕ
    xs = drop b ws

    ends : length xs ≤ position_or_len (nat_lt 0) xs
    ends =
        let f = found ws b None n p in
        ⊎_elim
        (λ t. absurd (let q = cond-true _ (Some (position_or_len (nat_lt 0) xs)) None t in let z : ◌≡◌ {A = ℕ} 0 1 = cc in omega arith))
        (ltb-false _ _)
        (cases_Bool (nat_lt (position_or_len (nat_lt 0) xs) (length xs)))

    before : b * 64 ≤ k → nat_lt 0 (get_or (drop b ws) (k / 64 - b) 0) ≡ false
    before ge = let e = ends in fails_before_first (nat_lt 0) xs (k / 64 - b) 0 (omega (arith, length-drop b ws))

-- the other words' slots, where one is emptied
pub after_emptied : (ws : List ℕ) (b e : ℕ) → (b + 1) * 64 ≤ e → slot (set ws b 0) e ≡ slot ws e
after_emptied ws b e le = slot_other ws b 0 e (λ q. omega arith)

-- ---- tallies at rest

-- a slot that is set has no need to be at rest
pub rest_inserted : (ws vs : List ℕ) (ts : List Tally) (d : ℕ) (t : Tally) → Inserted ws d vs → AtRest ws ts → AtRest vs (set ts d t)
rest_inserted ws vs ts d t i r e lt z =
    ⊎_elim
    (λ q. absurd (let o = i.here in let y : slot vs d ≡ 0 = subst (λ (x : ℕ). slot vs x ≡ 0) q z in omega arith))
    (λ q. let n : e ≢ d = q in rw get_or-set_other (r e lt (sym (i.others e q) ∙ z)))
    (cases_eq e d)

-- us is ts with start tallies from lo up to hi
pub record Fresh (lo hi : ℕ) (ts us : List Tally) : Type 0 where
  pub within : (e : ℕ) → lo ≤ e → e < hi → get_or us e blank ≡ start
  pub outside : Outside lo hi ts us

starts : (ts : List Tally) (lo hi : ℕ) → lo ≤ hi → hi ≤ length ts → Fresh lo hi ts (put_mid lo (hi - lo) ts (replicate (hi - lo) start))
starts ts lo hi le fits = record {
  within = λ e ge lt. search (rules, places);
  outside = record { below = λ e l. search (rules, places); above = λ e l. search (rules, places) };
}

-- `tallies[b * 64..b * 64 + 64].fill(Tally::new())`
pub fresh : (ts ys : List Tally) (b : ℕ) → b < 64 → length ts ≡ 4096 → ys ≡ replicate (b * 64 + 64 - b * 64) start
    → Fresh (b * 64) (b * 64 + 64) ts (put_mid (b * 64) (b * 64 + 64 - b * 64) ts ys)
fresh ts ys b lt n q = rw q (starts ts (b * 64) (b * 64 + 64) (omega arith) (omega arith))

-- a word and its tallies are emptied together
pub rest_emptied : (ws : List ℕ) (ts us : List Tally) (b : ℕ) → Fresh (b * 64) (b * 64 + 64) ts us → AtRest ws ts → AtRest (set ws b 0) us
rest_emptied ws ts us b f r d lt z =
    ⊎_elim
    (λ q. f.within d (omega arith) (omega arith))
    (λ n. beside n (cases_lt d (b * 64)) ∙ r d lt (sym (slot_other ws b 0 d n) ∙ z))
    (cases_eq (d / 64) b)
  where
    beside : (d / 64 ≡ b → ⊥) → (d < b * 64) ⊎ (b * 64 ≤ d) → get_or us d blank ≡ get_or ts d blank
    beside n = ⊎_elim (λ l. f.outside.below d l) (λ g. f.outside.above d (omega (arith, n)))
