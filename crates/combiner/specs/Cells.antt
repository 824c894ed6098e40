-- What is gathered for one document: nothing, or the tally of the scores that were taken for it.
use Rattle.std.specs.Prelude.{ℕ, zero, suc, List, [], ◌∷◌, length, Float}
use Rattle.docset.specs.Meaning.{Pair}
use Rattle.combiner.specs.declared.score_combiner.Tally.{Tally}
use Rattle.combiner.specs.Scores.{start}

pub data Cell : Type 0 where
  none : Cell
  some : Tally → Cell

-- one more score is taken, by the combiner's own step; the first one from the start tally
abbrev pub put : (Tally → Float → Tally) → Cell → Float → Cell
put take none x = some (take start x)
put take (some t) x = some (take t x)

-- some scores are taken in order
abbrev pub puts : (Tally → Float → Tally) → Cell → List Float → Cell
puts take c [] = c
puts take c (x ∷ xs) = puts take (put take c x) xs

-- ---- many cells: one for each number

-- a number before some others, if its cell holds something
abbrev pub slot_of : ℕ → Cell → List ℕ → List ℕ
slot_of d none xs = xs
slot_of d (some t) xs = d ∷ xs

-- of the n numbers lo, lo + 1, .. those whose cell holds something
unfoldable pub slots : (ℕ → Cell) → ℕ → ℕ → List ℕ
slots cells lo zero = []
slots cells lo (suc n) = slot_of lo (cells lo) (slots cells (suc lo) n)

-- how many they are
abbrev pub count : (ℕ → Cell) → ℕ → ℕ → ℕ
count cells lo n = length (slots cells lo n)

-- an id with the score that its tally tells, before the rest of a list, if its cell holds something
abbrev pub entry : (Tally → Float) → ℕ → Cell → List Pair → List Pair
entry tell d none ps = ps
entry tell d (some t) ps = record { id = d; score = tell t } ∷ ps

-- of the n ids lo, lo + 1, .. those whose cell holds something, in order
unfoldable pub listed : (Tally → Float) → (ℕ → Cell) → ℕ → ℕ → List Pair
listed tell cells lo zero = []
listed tell cells lo (suc n) = entry tell lo (cells lo) (listed tell cells (suc lo) n)
