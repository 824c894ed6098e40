-- Sets read into the cells of a window that starts at the id s: cell e is that of the id s + e.
-- `take` is the combiner's step; a are the cells before and b after.
use Rattle.std.specs.Prelude.{◌≡◌, ℕ, ◌+◌, ◌<◌, ◌≤◌, min, List, Float}
use Rattle.docset.specs.Meaning.{Meaning, TERM, Steady, Rising, calm, from}
use Rattle.combiner.specs.declared.score_combiner.Tally.{Tally}
use Rattle.combiner.specs.Cells.{Cell, puts}
use Rattle.live.specs.Sets.{AllSteady, AllRising, passed}
use Rattle.live.specs.Lists.{scores_in, scores_at}

-- where a window that starts at s ends: 4096 ids on, but no window holds TERM
abbrev pub reach : ℕ → ℕ
reach s = min (s + 4096) TERM

-- a steady set whose ids rise
abbrev pub Sound : Meaning → Type 0
Sound m = Steady m × Rising 0 m.pairs

abbrev pub AllSound : List Meaning → Type 0
AllSound ms = AllSteady ms × AllRising ms

-- the set m is read below h, and n is left of it
pub record Poured (take : Tally → Float → Tally) (s h : ℕ) (m n : Meaning) (a b : ℕ → Cell) : Type 0 where
  pub becomes : Sound m → n ≡ calm (from h m.pairs)
  pub inside : Sound m → (e : ℕ) → s + e < h → b e ≡ puts take (a e) (scores_in (s + e) m.pairs)
  pub outside : (e : ℕ) → h ≤ s + e → b e ≡ a e

-- the same of all sets, in bank order
pub record Refilled (take : Tally → Float → Tally) (s h : ℕ) (P Q : List Meaning) (a b : ℕ → Cell) : Type 0 where
  pub becomes : AllSound P → Q ≡ passed h P
  pub inside : AllSound P → (e : ℕ) → s + e < h → b e ≡ puts take (a e) (scores_at (s + e) P)
  pub outside : (e : ℕ) → h ≤ s + e → b e ≡ a e
