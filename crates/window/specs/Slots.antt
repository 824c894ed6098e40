-- The bits of words, lowest first, and the tallies of a window beside them.
use Rattle.std.specs.Prelude.{◌≡◌, ℕ, ◌*◌, ◌/◌, ◌%◌, ◌^◌, ◌<◌, ◌≤◌, List, ◌≢◌, slice_index, slice_index_or, slice_set}
use Rattle.std.specs.Float.{nan}
use Rattle.combiner.specs.declared.score_combiner.Tally.{Tally}
use Rattle.combiner.specs.Scores.{start}

-- ---- one word

-- bit k of the word w, lowest first: 0 or 1
abbrev pub bit : ℕ → ℕ → ℕ
bit w k = w / 2 ^ k % 2

-- k is the lowest bit set in w, and v is w without it
pub record Popped (w k v : ℕ) : Type 0 where
  pub inside : k < 64
  pub was : bit w k ≡ 1
  pub below : (j : ℕ) → j < k → bit w j ≡ 0
  pub here : bit v k ≡ 0
  pub others : (j : ℕ) → (j ≢ k) → bit v j ≡ bit w j

-- ---- words in a row

-- the bit of slot d: bit d mod 64 of word d div 64
abbrev pub slot : List ℕ → ℕ → ℕ
slot ws d = bit (slice_index ws (d / 64)) (d % 64)

-- d is the lowest slot set in word b, and vs is ws without it
pub record Taken (ws : List ℕ) (b d : ℕ) (vs : List ℕ) : Type 0 where
  pub bucket : d / 64 ≡ b
  pub was : slot ws d ≡ 1
  pub below : (e : ℕ) → b * 64 ≤ e → e < d → slot ws e ≡ 0
  pub here : slot vs d ≡ 0
  pub others : (e : ℕ) → (e ≢ d) → slot vs e ≡ slot ws e

-- ---- tallies

-- what is read past the tallies: it says nothing
abbrev pub blank : Tally
blank = record { max = nan; sum = nan }

-- the tallies with the start tally at d
abbrev pub without : List Tally → ℕ → List Tally
without ts d = slice_set ts d start

-- a slot whose bit is not set has the start tally
abbrev pub AtRest : List ℕ → List Tally → Type 0
AtRest ws ts = (d : ℕ) → d < 4096 → slot ws d ≡ 0 → slice_index_or ts d blank ≡ start

-- before lo, and from hi on, the tallies us are those of ts
pub record Outside (lo hi : ℕ) (ts us : List Tally) : Type 0 where
  pub below : (e : ℕ) → e < lo → slice_index_or us e blank ≡ slice_index_or ts e blank
  pub above : (e : ℕ) → hi ≤ e → slice_index_or us e blank ≡ slice_index_or ts e blank
