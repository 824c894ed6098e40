-- Leaves over a list of ids: what is refused, and what is listed.
use Rattle.std.specs.Prelude.{ℕ, suc, ◌<◌, cond, List, [], ◌∷◌, drop, Some, None, Option, nat_le, nat_lt, slice_index, position}
use Rattle.docset.specs.declared.refusal.Refusal.{Refusal}
use Rattle.docset.specs.declared.refusal.Refusal.TheVariants.{NotRising, TooLarge}
use Rattle.docset.specs.Meaning.{Meaning, TERM, calm, ones}

-- the first place that holds TERM or more
abbrev pub first_large : List ℕ → Option ℕ
first_large = position (nat_le TERM)

-- the first place whose number is not above the one before it; the list's first place is called i, and before it stands p
abbrev pub first_flat_after : ℕ → ℕ → List ℕ → Option ℕ
first_flat_after p i [] = None
first_flat_after p i (x ∷ xs) = cond (nat_lt p x) (first_flat_after x (suc i) xs) (Some i)

abbrev pub first_flat : List ℕ → Option ℕ
first_flat [] = None
first_flat (x ∷ xs) = first_flat_after x 1 xs

-- the whole list is searched for a number too large, and only then for numbers that do not rise
abbrev pub refused_by : Option ℕ → Option ℕ → Option Refusal
refused_by (Some place) flat = Some (TooLarge place)
refused_by None (Some place) = Some (NotRising place)
refused_by None None = None

-- why a list of ids is refused, if it is
abbrev pub ids_refusal : List ℕ → Option Refusal
ids_refusal xs = refused_by (first_large xs) (first_flat xs)

-- what a builder keeps: all, or none where it refuses
abbrev pub kept_ids : Option Refusal → List ℕ → List ℕ
kept_ids None xs = xs
kept_ids (Some why) xs = []

-- the leaf that has come to a place of its ids
abbrev pub listed : List ℕ → ℕ → Meaning
listed xs place = calm (ones (drop place xs))

-- each of the first n numbers is an id
abbrev pub Small : List ℕ → ℕ → Type 0
Small xs n = (k : ℕ) → k < n → slice_index xs k < TERM

-- each of the places 1 to n - 1 holds more than the place before
abbrev pub Rises : List ℕ → ℕ → Type 0
Rises xs n = (k : ℕ) → suc k < n → slice_index xs k < slice_index xs (suc k)
