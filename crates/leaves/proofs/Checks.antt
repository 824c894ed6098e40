-- The two searches for ids at fault, and what holds of a list in which they find none.
use Rattle.std.proofs.Common.{◌≡◌, ℕ, zero, suc, ◌+◌, ◌<◌, ◌≤◌, ltb, leb, List, [], ◌∷◌, length, get_or, take, drop, Some, None, Option, sym, refl, ap, ◌∙◌, ⊎_elim, le_of_suc-le-suc, not-suc-le-zero, add-zero, arith, length-drop, get_or-take, get_or-drop, drop_of_length-le}
use Rattle.std.proofs.lemmas.Bool.{leb-false, lt-ltb, le-ltb, cond-true, cond-false, cases_lt}
use Rattle.std.proofs.Math.Seq.{drop-cons}
use Rattle.std.specs.List.{position_or_len}
use Rattle.std.proofs.lemmas.List.Sums.{fails_before_first}
use Rattle.docset.specs.Meaning.{TERM}
use Rattle.leaves.specs.Lists.{first_large, first_flat, first_flat_after, refused_by, ids_refusal, Small, Rises}

-- ---- one step of each search

pub flat_here : (p i x : ℕ) (xs : List ℕ) → x ≤ p → first_flat_after p i (x ∷ xs) ≡ Some i
flat_here p i x xs h = cond-false (ltb p x) (first_flat_after x (suc i) xs) (Some i) (le-ltb p x h)

pub flat_later : (p i x : ℕ) (xs : List ℕ) → p < x → first_flat_after p i (x ∷ xs) ≡ first_flat_after x (suc i) xs
flat_later p i x xs h = cond-true (ltb p x) (first_flat_after x (suc i) xs) (Some i) (lt-ltb p x h)

-- ---- the same at a place of the list

-- what the search for a place that does not rise finds past place i
abbrev pub flat_from : List ℕ → ℕ → Option ℕ
flat_from xs i = first_flat_after (get_or xs i 0) (i + 1) (drop (i + 1) xs)

pub flat_start : (xs : List ℕ) → first_flat xs ≡ flat_from xs 0
flat_start [] = refl
flat_start (x ∷ xs) = refl

pub flat_found :
    (xs : List ℕ) (i : ℕ) → i + 1 < length xs → get_or xs (i + 1) 0 ≤ get_or xs i 0 → flat_from xs i ≡ Some (i + 1)
flat_found xs i h k =
    ap (first_flat_after (get_or xs i 0) (i + 1)) (drop-cons xs (i + 1) 0 h) ∙
    flat_here (get_or xs i 0) (i + 1) (get_or xs (i + 1) 0) (drop (suc (i + 1)) xs) k

pub flat_more :
    (xs : List ℕ) (i : ℕ) → i + 1 < length xs → get_or xs i 0 < get_or xs (i + 1) 0 → flat_from xs i ≡ flat_from xs (i + 1)
flat_more xs i h k =
    ap (first_flat_after (get_or xs i 0) (i + 1)) (drop-cons xs (i + 1) 0 h) ∙
    flat_later (get_or xs i 0) (i + 1) (get_or xs (i + 1) 0) (drop (suc (i + 1)) xs) k ∙
    ap (λ (n : ℕ). first_flat_after (get_or xs (i + 1) 0) n (drop n xs)) one_more
  where
    one_more : suc (i + 1) ≡ i + 1 + 1
    one_more = omega arith

pub flat_none : (xs : List ℕ) (i : ℕ) → length xs ≤ i + 1 → flat_from xs i ≡ None
flat_none xs i h = ap (first_flat_after (get_or xs i 0) (i + 1)) (drop_of_length-le xs {i = i + 1} h)

-- the two places that a window at i shows
pub record Neighbours (xs w : List ℕ) (i : ℕ) : Type 0 where
  pub inside : i + 1 < length xs
  pub left : get_or w 0 0 ≡ get_or xs i 0
  pub right : get_or w 1 0 ≡ get_or xs (i + 1) 0

pub neighbours :
    (xs ys w : List ℕ) (i n : ℕ) → n ≡ 2 → ys ≡ drop i xs → n ≤ length ys → w ≡ take n ys → Neighbours xs w i
neighbours xs ys w i n two rest long e =
    let inside : i + 1 < length xs = omega (arith, length-drop i xs, ap length rest) in
    let at : (k : ℕ) → k < 2 → get_or w k 0 ≡ get_or xs (i + k) 0 =
    λ k h.
    let here : k < n = omega arith in
    ap (λ (l : List ℕ). get_or l k 0) e ∙ get_or-take n ys k 0 here ∙ ap (λ (l : List ℕ). get_or l k 0) rest ∙ get_or-drop i xs k 0 in
    record { inside = inside; left = at 0 (omega arith) ∙ rw add-zero; right = at 1 (omega arith) }

-- ---- a list that is not refused

large_small : (xs : List ℕ) → first_large xs ≡ None → Small xs (length xs)
large_small xs e k h =
    let n : ℕ = position_or_len (leb TERM) xs in
    ⊎_elim {C = get_or xs k 0 < TERM}
    (λ l. cc (sym (cond-true (ltb n (length xs)) (Some n) None (lt-ltb n (length xs) l)) ∙ e))
    (λ l. leb-false TERM (get_or xs k 0) (fails_before_first (leb TERM) xs k 0 (omega arith)))
    (cases_lt n (length xs))

rises_cons : (p x : ℕ) (xs : List ℕ) → p < x → Rises (x ∷ xs) (length (x ∷ xs)) → Rises (p ∷ x ∷ xs) (length (p ∷ x ∷ xs))
rises_cons p x xs l s zero h = l
rises_cons p x xs l s (suc k) h = s k (le_of_suc-le-suc h)

flat_rises : (p i : ℕ) (xs : List ℕ) → first_flat_after p i xs ≡ None → Rises (p ∷ xs) (length (p ∷ xs))
flat_rises p i [] e = λ k h. absurd (omega arith)
flat_rises p i (x ∷ xs) e =
    ⊎_elim {C = Rises (p ∷ x ∷ xs) (length (p ∷ x ∷ xs))}
    (λ l. rises_cons p x xs l (flat_rises x (suc i) xs (sym (flat_later p i x xs l) ∙ e)))
    (λ l. cc (sym (flat_here p i x xs l) ∙ e))
    (cases_lt p x)

none_large : (a b : Option ℕ) → refused_by a b ≡ None → a ≡ None
none_large None b e = refl
none_large (Some x) b e = cc

none_flat : (a b : Option ℕ) → refused_by a b ≡ None → b ≡ None
none_flat None None e = refl
none_flat None (Some x) e = cc
none_flat (Some x) b e = cc

pub kept_small : (xs : List ℕ) → ids_refusal xs ≡ None → Small xs (length xs)
kept_small xs e = large_small xs (none_large (first_large xs) (first_flat xs) e)

rises_all : (xs : List ℕ) → first_flat xs ≡ None → Rises xs (length xs)
rises_all [] e = λ k h. absurd (not-suc-le-zero h)
rises_all (x ∷ xs) e = flat_rises x 1 xs e

pub kept_rises : (xs : List ℕ) → ids_refusal xs ≡ None → Rises xs (length xs)
kept_rises xs e = rises_all xs (none_flat (first_large xs) (first_flat xs) e)
