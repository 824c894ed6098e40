-- What a window holds, slot by slot, and what its calls do to that.
use Rattle.std.specs.Prelude.{◌≡◌, ℕ, ◌+◌, ◌<◌, ◌≤◌, min, cond, List, ◌++◌, map, take, drop, Some, None, Option, ◌≢◌, slice_index_or, Float}
use Rattle.docset.specs.Bits.{bit_set}
use Rattle.combiner.specs.declared.score_combiner.Tally.{Tally}
use Rattle.combiner.specs.Cells.{Cell, none, some, put, slots, count}
use Rattle.window.specs.Slots.{blank}
use Rattle.window.specs.declared.window.Window.{Window}

-- what a window of these words and tallies holds at slot d: its tally, if its bit is set
unfoldable pub held : List ℕ → List Tally → ℕ → Cell
held ws ts d = cond (bit_set ws d) (some (slice_index_or ts d blank)) none

-- what a window holds, slot by slot
abbrev pub cells : Window → ℕ → Cell
cells w = held w.words w.tallies

-- the cells b are those of a
abbrev pub Same : (ℕ → Cell) → (ℕ → Cell) → Type 0
Same a b = (e : ℕ) → b e ≡ a e

-- the cells b are those of a, with the score x taken at d
pub record Put (taken : Tally → Float → Tally) (a b : ℕ → Cell) (d : ℕ) (x : Float) : Type 0 where
  pub here : b d ≡ put taken (a d) x
  pub others : (e : ℕ) → (e ≢ d) → b e ≡ a e

-- the lowest of the cells a that holds something is d, its tally is t, and the cells b are those of a without it
pub record Next (a b : ℕ → Cell) (d : ℕ) (t : Tally) : Type 0 where
  pub inside : d < 4096
  pub was : a d ≡ some t
  pub below : (e : ℕ) → e < d → a e ≡ none
  pub here : b d ≡ none
  pub others : (e : ℕ) → (e ≢ d) → b e ≡ a e

-- no cell of a holds anything, nor does one of b
pub record Ended (a b : ℕ → Cell) : Type 0 where
  pub all : (e : ℕ) → a e ≡ none
  pub same : Same a b

-- the lowest slot with its tally, or nothing where no cell holds anything
abbrev pub Pops : (ℕ → Cell) → (ℕ → Cell) → Option (ℕ × Tally) → Type 0
Pops a b None = Ended a b
Pops a b (Some p) = Next a b p.0 p.1

-- the cells b are those of a, but for those below d, which hold nothing
pub record Wiped (a b : ℕ → Cell) (d : ℕ) : Type 0 where
  pub below : (e : ℕ) → e < d → b e ≡ none
  pub others : (e : ℕ) → d ≤ e → b e ≡ a e

-- the ids of these slots, counted from start
abbrev pub shifted : ℕ → List ℕ → List ℕ
shifted start ds = map (λ (d : ℕ). start + d) ds

-- The slots below `reach` are taken out, and their ids, lowest first, stand in the buffer after the places that were filled. Of its 64 places r are
-- filled then: all, or as many as there were slots to fill them.
pub record Drained (a b : ℕ → Cell) (start filled : ℕ) (old new : List ℕ) (r : ℕ) : Type 0 where
  pub reach : ℕ
  pub inside : reach ≤ 4096
  pub wiped : Wiped a b reach
  pub answer : r ≡ filled + count a 0 reach
  pub full : r ≡ min 64 (filled + count a 0 4096)
  pub buffer : new ≡ take filled old ++ (shifted start (slots a 0 reach) ++ drop r old)

-- The ids of slots, counted from start, are to be written after the places that are filled. Where start is past TERMINATED, or
-- more than 64 places are said to be filled, nothing is changed, and r places are filled as before.
pub record Drains (a b : ℕ → Cell) (start filled : ℕ) (old new : List ℕ) (r : ℕ) : Type 0 where
  pub drained : start ≤ 2147483647 → filled ≤ 64 → Drained a b start filled old new r
  pub kept : (start ≤ 2147483647 → filled ≤ 64 → ⊥) → (r ≡ filled) × Same a b × (new ≡ old)
