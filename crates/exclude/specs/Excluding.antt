-- A list without the ids of other lists.
use Rattle.std.specs.Prelude.{◌≡◌, ℕ, ◌≤◌, Bool, true, cond, not, ◌&&◌, List, [], ◌∷◌, length, drop}
use Rattle.docset.specs.Meaning.{Meaning, lost, is_steady, Pair, TERM, Steady, calm, first_id, Rising, rises_from}
use Rattle.bank.specs.Holding.{held, all_known, AllKnown, reached, Trims}

-- `contains`: r says whether any list has d. At most pairs below d are dropped, and the lists after the first that has d stay whole.
pub record Asked (d : ℕ) (ms ns : List Meaning) (r : Bool) : Type 0 where
  pub answers : AllKnown ms → r ≡ held d ms
  pub trims : Trims d ms ns
  pub later : AllKnown ms → drop (reached d ms) ns ≡ drop (reached d ms) ms

-- the pairs whose ids none of the lists has
abbrev pub without : List Meaning → List Pair → List Pair
without ms [] = []
without ms (p ∷ ps) = cond (held p.id ms) (without ms ps) (p ∷ without ms ps)

-- ---- the meaning of an exclusion

-- none of the lists has the first id
abbrev pub clear : List Meaning → List Pair → Bool
clear ms [] = true
clear ms (p ∷ ps) = not (held p.id ms)

-- a steady set, and lists on which probes are promised. That ids rise and that the first is not excluded is so of
-- every such value: the set promises the one, and every builder and call sees to the other.
abbrev pub fit : Meaning → List Meaning → Bool
fit m ms = (is_steady m.mark && rises_from 0 m.pairs) && (all_known ms && clear ms m.pairs)

-- the set m without the ids of the lists; where they do not fit, the list of m, of which nothing is promised
abbrev pub excluded : Meaning → List Meaning → Meaning
excluded m ms = cond (fit m ms) (calm (without ms m.pairs)) (record { pairs = m.pairs; mark = lost })

-- ---- going past what is excluded

-- a steady set that stands at d, and lists on which probes are promised
pub record Ready (m : Meaning) (ms : List Meaning) (d : ℕ) : Type 0 where
  pub still : Steady m
  pub rises : Rising 0 m.pairs
  pub known : AllKnown ms
  pub tells : d ≡ first_id m.pairs

-- n is m, which stood at d, without some excluded pairs at its front, and stands at r
pub record Passed (m n : Meaning) (ms ns : List Meaning) (d r : ℕ) : Type 0 where
  pub an_id : r ≤ TERM
  pub shrinks : length n.pairs ≤ length m.pairs
  pub ends : d ≡ TERM → r ≡ TERM
  pub ready : Ready m ms d → Ready n ns r
  pub list : Ready m ms d → without ns n.pairs ≡ without ms m.pairs

-- and its first id is not excluded
pub record Skipped (m n : Meaning) (ms ns : List Meaning) (d r : ℕ) : Type 0 where
  pub passed : Passed m n ms ns d r
  pub clears : Ready m ms d → clear ns n.pairs ≡ true
