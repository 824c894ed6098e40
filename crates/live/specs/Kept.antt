-- A bank of which the sets that have answered TERMINATED are asked no more. A flag for each place says whether its set is
-- live, which is to say that it has not ended.
use Rattle.std.specs.Prelude.{◌≡◌, ℕ, suc, ◌+◌, ◌≤◌, min, max, Bool, true, false, cond, List, [], ◌∷◌, length, take, slice_index, slice_index_or}
use Rattle.docset.specs.Meaning.{Meaning, Pair, lost, Steady, Rising, TERM, calm, rest, first_id}
use Rattle.live.specs.Sets.{empty}

-- ---- what is left of the sets

abbrev pub none_left : List Pair → Bool
none_left [] = true
none_left (p ∷ ps) = false

-- a live set has something left; where it has nothing its answers are not to be trusted, and it counts as lost
abbrev pub awake : Meaning → Meaning
awake m = record { pairs = m.pairs; mark = cond (none_left m.pairs) lost m.mark }

-- the sets as they are read: one that has ended is empty
abbrev pub kept : List Bool → List Meaning → List Meaning
kept [] ms = []
kept (b ∷ bs) [] = cond b (awake empty) empty ∷ kept bs []
kept (b ∷ bs) (m ∷ ms) = cond b (awake m) empty ∷ kept bs ms

abbrev pub live_at : List Bool → ℕ → Type 0
live_at bs k = slice_index_or bs k false ≡ true

-- how many more answers may come of a set
abbrev pub due_of : Bool → Meaning → ℕ
due_of true m = suc (length m.pairs)
due_of false m = 0

-- and of all sets: it falls with each step, whatever the marks
abbrev pub due : List Bool → List Meaning → ℕ
due [] ms = 0
due (b ∷ bs) [] = due_of b empty + due bs []
due (b ∷ bs) (m ∷ ms) = due_of b m + due bs ms

-- ---- hints and costs

-- the numbers at the live places, in order, where the first flag stands for place k
abbrev pub chosen : ℕ → List Bool → List ℕ → List ℕ
chosen k [] xs = []
chosen k (b ∷ bs) xs = cond b (slice_index xs k ∷ chosen (suc k) bs xs) (chosen (suc k) bs xs)

abbrev pub sum_of : List ℕ → ℕ
sum_of [] = 0
sum_of (x ∷ xs) = x + sum_of xs

-- the sum, but 2^64 - 1 where it is larger
abbrev pub capped_sum : List ℕ → ℕ
capped_sum xs = min (sum_of xs) 18446744073709551615

abbrev pub greatest_of : List ℕ → ℕ
greatest_of [] = 0
greatest_of (x ∷ xs) = max x (greatest_of xs)

-- the greatest of the first 32, which is all that a bank may have here
abbrev pub greatest : List ℕ → ℕ
greatest xs = greatest_of (take 32 xs)

-- ---- a step

-- one step of the set m to n, which tells r
pub record Stepped (m n : Meaning) (r : ℕ) : Type 0 where
  pub an_id : r ≤ TERM
  pub becomes : Steady m → Rising 0 m.pairs → n ≡ calm (rest m.pairs)
  pub tells : Steady m → r ≡ first_id (rest m.pairs)
