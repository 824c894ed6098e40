-- Several sets taken together, in bank order.
use Rattle.std.specs.Prelude.{ℕ, zero, suc, min, Bool, true, ◌&&◌, List, [], ◌∷◌}
use Rattle.docset.specs.Meaning.{Meaning, TERM, Steady, Rising, rises_from, is_steady, calm, from, first_id}

-- a steady set that lists nothing
abbrev pub empty : Meaning
empty = calm []

-- the sets with all pairs below h dropped
abbrev pub passed : ℕ → List Meaning → List Meaning
passed h [] = []
passed h (m ∷ ms) = calm (from h m.pairs) ∷ passed h ms

-- the first i sets with all pairs below h dropped, the others as they are
abbrev pub part : ℕ → ℕ → List Meaning → List Meaning
part h zero ms = ms
part h (suc i) [] = []
part h (suc i) (m ∷ ms) = calm (from h m.pairs) ∷ part h i ms

-- the lowest id that any set lists first, or TERM
abbrev pub lowest_of : List Meaning → ℕ
lowest_of [] = TERM
lowest_of (m ∷ ms) = min (first_id m.pairs) (lowest_of ms)

abbrev pub AllSteady : List Meaning → Type 0
AllSteady [] = Unit {0}
AllSteady (m ∷ ms) = Steady m × AllSteady ms

-- the same as a test
abbrev pub all_steady : List Meaning → Bool
all_steady [] = true
all_steady (m ∷ ms) = is_steady m.mark && all_steady ms

abbrev pub AllRising : List Meaning → Type 0
AllRising [] = Unit {0}
AllRising (m ∷ ms) = Rising 0 m.pairs × AllRising ms

-- the same as a test
abbrev pub all_rising : List Meaning → Bool
all_rising [] = true
all_rising (m ∷ ms) = rises_from 0 m.pairs && all_rising ms
