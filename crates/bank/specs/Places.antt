-- The sets of a bank by their place, counted from 0.
use Rattle.std.specs.Prelude.{◌≡◌, ℕ, ◌≤◌, List, [], ◌∷◌, map, length, slice_index, slice_index_or, slice_set}
use Rattle.docset.specs.Meaning.{Meaning, calm}

abbrev pub largest_usize : ℕ
largest_usize = 18446744073709551615

-- the meaning at a place; outside stands an empty steady set
abbrev pub at : List Meaning → ℕ → Meaning
at ms k = slice_index_or ms k (calm [])

-- by place, what each set means, and what it guesses of itself: how many documents it lists, and what work they cost
pub record Rows : Type 0 where
  pub places : List Meaning
  pub hints : List ℕ
  pub prices : List ℕ

abbrev pub no_rows : Rows
no_rows = record { places = []; hints = []; prices = [] }

-- a set that means m, of hint h and price p, ahead of others
abbrev pub ahead : Meaning → ℕ → ℕ → Rows → Rows
ahead m h p rows = record { places = m ∷ rows.places; hints = h ∷ rows.hints; prices = p ∷ rows.prices }

-- sets of one type, whose meanings are told by f, hints by h and prices by p
abbrev pub rows_of : {S : Type 0} → (S → Meaning) → (S → ℕ) → (S → ℕ) → List S → Rows
rows_of f h p sets = record { places = map f sets; hints = map h sets; prices = map p sets }

-- A call at place k leaves every other place as it was: P becomes Q, changed at k alone; outside nothing changes at all.
pub record Elsewhere (k : ℕ) (P Q : Rows) : Type 0 where
  pub lists : Q.places ≡ slice_set P.places k (at Q.places k)
  pub guesses : Q.hints ≡ slice_set P.hints k (slice_index Q.hints k)
  pub costs : Q.prices ≡ slice_set P.prices k (slice_index Q.prices k)
  pub outside : length P.places ≤ k → Q ≡ P
