-- The lists of a union and of a threshold, from the lists of their sets.
-- `take` is a combiner's step and `tell` what it tells of a tally.
use Rattle.std.specs.Prelude.{ℕ, zero, suc, cond, List, [], ◌∷◌, ◌++◌, length, ◌==◌, nat_lt, Float}
use Rattle.docset.specs.Meaning.{Meaning, Pair, TERM}
use Rattle.combiner.specs.declared.score_combiner.Tally.{Tally}
use Rattle.combiner.specs.Cells.{Cell, none, puts, entry, listed}
use Rattle.live.specs.Sets.{passed, lowest_of}

-- the scores that a list has for an id: at most one, since ids rise
abbrev pub scores_in : ℕ → List Pair → List Float
scores_in d [] = []
scores_in d (p ∷ ps) = cond (p.id == d) (p.score ∷ scores_in d ps) (scores_in d ps)

-- in bank order, the scores of the sets that list the id
abbrev pub scores_at : ℕ → List Meaning → List Float
scores_at d [] = []
scores_at d (m ∷ ms) = scores_in d m.pairs ++ scores_at d ms

-- what is gathered for an id: nothing if no set lists it, else the tally of its scores in bank order
abbrev pub united : (Tally → Float → Tally) → List Meaning → ℕ → Cell
united take ms d = puts take none (scores_at d ms)

-- a union: each id of any set once, rising, with what is told of its tally
unfoldable pub union_list : (Tally → Float → Tally) → (Tally → Float) → List Meaning → List Pair
union_list take tell ms = listed tell (united take ms) 0 TERM

-- the same, but nothing is gathered for an id that fewer than least sets list
abbrev pub sifted : ℕ → (Tally → Float → Tally) → List Meaning → ℕ → Cell
sifted least take ms d = cond (nat_lt (length (scores_at d ms)) least) none (united take ms d)

-- a threshold: each id that at least so many sets list
unfoldable pub threshold_list : ℕ → (Tally → Float → Tally) → (Tally → Float) → List Meaning → List Pair
threshold_list least take tell ms = listed tell (sifted least take ms) 0 TERM

-- both lists, worked out from one lowest id to the next, at most n of them: what examples compute by
abbrev pub threshold_run : ℕ → (Tally → Float → Tally) → (Tally → Float) → ℕ → List Meaning → List Pair
threshold_run least take tell zero ms = []
threshold_run least take tell (suc n) ms =
    cond (nat_lt (lowest_of ms) TERM)
    (entry tell (lowest_of ms) (sifted least take ms (lowest_of ms)) (threshold_run least take tell n (passed (suc (lowest_of ms)) ms)))
    []
