-- Leaves over bits: where one stands, and where it goes.
use Rattle.std.proofs.Common.{slice_get, ◌≡◌, ℕ, suc, ◌*◌, ◌<◌, ◌≤◌, Bool, true, false, cond, eqb, ltb, List, [], ◌∷◌, length, Some, None, Option, unwrap_or, sym, refl, ap, ◌∙◌, subst, ⊎_elim, arith}
use Rattle.std.proofs.lemmas.Bool.{cases_lt, cases_eq, ltb-false, eqb-true, eq-eqb, ne_eqb}
use Rattle.docset.specs.Meaning.{TERM, calm, ones, one_score, zero_score, RisingIds}
use Rattle.docset.specs.Calls.{Told, Moved, Sought, Scored}
use Rattle.docset.specs.Bits.{bit_set}
use Rattle.docset.specs.declared.refusal.Refusal.TheVariants.{SegmentTooLarge, WrongWordCount}
use Rattle.docset.proofs.Lists.{from_all}
use Rattle.docset.proofs.Probes.{sought_told}
use Rattle.leaves.specs.Bits.{bits_from, stands, past_end, words_for, bits_refusal}
use Rattle.leaves.proofs.Leaves.{told_cons, told_end, moved_cons, moved_end, scored_cons, scored_end}
use Rattle.leaves.proofs.Ranges.{between_hit, between_none, between_rises_0, from_between, first_cut, some_between, none_between}
use Rattle.leaves.proofs.Words.{bit_past}

nothing_first : (xs : List ℕ) → slice_get xs 0 ≡ None → xs ≡ []
nothing_first [] e = refl
nothing_first (x ∷ xs) e = cc

-- where a leaf stands is the end, or a bit that is set
pub stands_end : (ws : List ℕ) (d : ℕ) → d ≡ TERM → stands ws d ≡ true
stands_end ws d e = ap (λ (b : Bool). cond b true (bit_set ws d)) (eq-eqb d TERM e)

stands_set : (ws : List ℕ) (d : ℕ) → bit_set ws d ≡ true → stands ws d ≡ true
stands_set ws d e =
    elim (eqb d TERM) as (λ (b : Bool). cond b true (bit_set ws d) ≡ true) [ true ↦ refl | false ↦ e ]

set_stands : (ws : List ℕ) (d : ℕ) → stands ws d ≡ true → (d ≡ TERM → ⊥) → bit_set ws d ≡ true
set_stands ws d e ne = sym (ap (λ (b : Bool). cond b true (bit_set ws d)) (ne_eqb d TERM ne)) ∙ e

-- a bit that is set lies in the words
inside : (ws : List ℕ) (d : ℕ) → bit_set ws d ≡ true → d < 64 * length ws
inside ws d e =
    ⊎_elim {C = d < 64 * length ws} (λ l. l) (λ l. cc (sym e ∙ bit_past ws d l)) (cases_lt d (64 * length ws))

-- the words of a leaf: no bit from max on is set
module _ (ws : List ℕ) (max : ℕ) (s : max ≤ TERM) (clear : (k : ℕ) → max ≤ k → bit_set ws k ≡ false) where
  ids_small : (k : ℕ) → k < 64 * length ws → bit_set ws k ≡ true → k < TERM
  ids_small k h e = ⊎_elim {C = k < TERM} (λ l. omega arith) (λ l. cc (sym e ∙ clear k l)) (cases_lt k max)

  pub bits_rise : (lo : ℕ) → RisingIds 0 (bits_from ws lo)
  bits_rise lo = between_rises_0 (bit_set ws) lo (64 * length ws) ids_small

  pub bits_none : (lo : ℕ) → max ≤ lo → bits_from ws lo ≡ []
  bits_none lo h = between_none (bit_set ws) lo (64 * length ws) (λ k l. clear k (omega arith))

  -- standing on d, it lists d first
  bits_cons : (d : ℕ) → stands ws d ≡ true → (d ≡ TERM → ⊥) → bits_from ws d ≡ d ∷ bits_from ws (suc d)
  bits_cons d e ne =
      let b = set_stands ws d e ne in between_hit (bit_set ws) d (64 * length ws) (inside ws d b) b

  bits_end : (d : ℕ) → d ≡ TERM → bits_from ws d ≡ []
  bits_end d e = bits_none d (omega arith)

  pub bits_told : (d : ℕ) → stands ws d ≡ true → Told (calm (ones (bits_from ws d))) d
  bits_told d e =
      ⊎_elim {C = Told (calm (ones (bits_from ws d))) d}
      (λ z. subst (λ (r : ℕ). Told (calm (ones (bits_from ws d))) r) (sym z) (told_end (bits_from ws d) (bits_end d z)))
      (λ ne. told_cons (bits_from ws d) d (bits_from ws (suc d)) (bits_rise d) (bits_cons d e ne))
      (cases_eq d TERM)

  -- the first bit from t on, or the end
  module _ (t r : ℕ) (e : r ≡ unwrap_or (slice_get (bits_from ws t) 0) TERM) where
    pub next_stands : stands ws r ≡ true
    next_stands = by_first (slice_get (bits_from ws t) 0) refl
      where
        by_first : (o : Option ℕ) → slice_get (bits_from ws t) 0 ≡ o → stands ws r ≡ true
        by_first None z = stands_end ws r (e ∙ ap (λ (x : Option ℕ). unwrap_or x TERM) z)
        by_first (Some x) z =
            let y : r ≡ x = e ∙ ap (λ (w : Option ℕ). unwrap_or w TERM) z in
            stands_set ws r (ap (bit_set ws) y ∙ (some_between (bit_set ws) t (64 * length ws) x z).passes)

    pub next_cut : bits_from ws t ≡ bits_from ws r
    next_cut = by_first (slice_get (bits_from ws t) 0) refl
      where
        by_first : (o : Option ℕ) → slice_get (bits_from ws t) 0 ≡ o → bits_from ws t ≡ bits_from ws r
        by_first None z =
            nothing_first (bits_from ws t) z ∙ sym (bits_end r (e ∙ ap (λ (x : Option ℕ). unwrap_or x TERM) z))
        by_first (Some x) z =
            let y : r ≡ x = e ∙ ap (λ (w : Option ℕ). unwrap_or w TERM) z in
            first_cut (bit_set ws) t (64 * length ws) x (some_between (bit_set ws) t (64 * length ws) x z) ∙
            ap (bits_from ws) (sym y)

  pub bits_moved :
      (d r : ℕ) → stands ws d ≡ true → (d ≡ TERM → ⊥) → r ≡ unwrap_or (slice_get (bits_from ws (suc d)) 0) TERM →
      Moved (calm (ones (bits_from ws d))) (calm (ones (bits_from ws r))) r
  bits_moved d r e ne n =
      moved_cons (bits_from ws d) d (bits_from ws r) r
      (bits_cons d e ne ∙ ap (λ (l : List ℕ). d ∷ l) (next_cut (suc d) r n)) (bits_told r (next_stands (suc d) r n))

  pub bits_stay : (d : ℕ) → d ≡ TERM → Moved (calm (ones (bits_from ws d))) (calm (ones (bits_from ws d))) d
  bits_stay d e = moved_end (bits_from ws d) d (bits_end d e) (bits_told d (stands_end ws d e))

  pub bits_sought :
      (t d r : ℕ) → d ≤ t → stands ws r ≡ true → bits_from ws t ≡ bits_from ws r →
      Sought t (calm (ones (bits_from ws d))) (calm (ones (bits_from ws r))) r
  bits_sought t d r h e c =
      sought_told t (ones (bits_from ws d)) (ones (bits_from ws r)) r
      (from_between (bit_set ws) d t (64 * length ws) h ids_small ∙ ap ones c) (bits_told r e)

  -- a target that was passed already
  pub bits_kept :
      (t d : ℕ) → t ≤ d → stands ws d ≡ true → Sought t (calm (ones (bits_from ws d))) (calm (ones (bits_from ws d))) d
  bits_kept t d h e =
      let q = bits_told d e in
      sought_told t (ones (bits_from ws d)) (ones (bits_from ws d)) d
      (from_all t (ones (bits_from ws d)) (omega (arith, q.tells refl))) q

  -- a target at or past max ends it
  pub bits_ended :
      (t d : ℕ) → d ≤ t → max ≤ t → Sought t (calm (ones (bits_from ws d))) (calm (ones (bits_from ws 2147483647))) 2147483647
  bits_ended t d h l =
      bits_sought t d TERM h (stands_end ws TERM refl) (bits_none t l ∙ sym (bits_none TERM s))

  pub bits_scored :
      (d : ℕ) → stands ws d ≡ true → (d ≡ TERM → ⊥) → Scored (calm (ones (bits_from ws d))) (calm (ones (bits_from ws d))) one_score
  bits_scored d e ne = scored_cons (bits_from ws d) d (bits_from ws (suc d)) (bits_cons d e ne)

  pub bits_scored_end : (d : ℕ) → d ≡ TERM → Scored (calm (ones (bits_from ws d))) (calm (ones (bits_from ws d))) zero_score
  bits_scored_end d e = scored_end (bits_from ws d) (bits_end d e)

-- ---- the check of the last word

none_past : (xs : List ℕ) → past_end xs ≡ None → slice_get xs 0 ≡ None
none_past [] e = refl
none_past (x ∷ xs) e = cc

-- words that are not refused have no bit from max on
pub kept_clear : (ws : List ℕ) (max : ℕ) → past_end (bits_from ws max) ≡ None → (k : ℕ) → max ≤ k → bit_set ws k ≡ false
kept_clear ws max e k h =
    ⊎_elim {C = bit_set ws k ≡ false}
    (λ l. none_between (bit_set ws) max (64 * length ws) (none_past (bits_from ws max) e) k h l)
    (λ l. bit_past ws k l)
    (cases_lt k (64 * length ws))

-- what is known of words that are not refused
pub record Kept (ws : List ℕ) (max : ℕ) : Type 0 where
  pub small : max ≤ TERM
  pub sized : length ws ≡ words_for max
  pub past : past_end (bits_from ws max) ≡ None

-- a test that would refuse was false, or true
not_taken : {X : Type 0} (b : Bool) (x : X) (o : Option X) → cond b (Some x) o ≡ None → (b ≡ false) × (o ≡ None)
not_taken true x o e = cc
not_taken false x o e = (refl, e)

taken : {X : Type 0} (b : Bool) (x : X) (o : Option X) → cond b o (Some x) ≡ None → (b ≡ true) × (o ≡ None)
taken true x o e = (refl, e)
taken false x o e = cc

pub kept_words : (ws : List ℕ) (max : ℕ) → bits_refusal ws max ≡ None → Kept ws max
kept_words ws max e =
    let a = not_taken (ltb TERM max) SegmentTooLarge (cond (eqb (length ws) (words_for max)) (past_end (bits_from ws max)) (Some WrongWordCount)) e in
    let b = taken (eqb (length ws) (words_for max)) WrongWordCount (past_end (bits_from ws max)) a.1 in
    record { small = ltb-false TERM max a.0; sized = eqb-true (length ws) (words_for max) b.0; past = b.1 }
