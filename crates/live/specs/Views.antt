-- What the calls of a bank that asks no set that has ended do, by the bank's `rows`: `old` is what it was before a call, `new` after.
use Rattle.std.specs.Prelude.{◌≡◌, ℕ, ◌<◌, ◌≤◌, List, slice_set, Float}
use Rattle.docset.specs.Meaning.{Meaning, Steady, Rising, TERM, calm, from, first_score}
use Rattle.docset.specs.Calls.{Scored}
use Rattle.combiner.specs.declared.score_combiner.Tally.{Tally}
use Rattle.bank.specs.Places.{Rows, at}
use Rattle.live.specs.Sets.{AllSteady, AllRising, passed}
use Rattle.live.specs.Kept.{kept, due, chosen, live_at, Stepped}
use Rattle.live.specs.declared.live.Live.{Live}

-- what is left of the sets
abbrev pub left : {B : Type 0} → (B → Rows) → Live B → List Meaning
left rows s = kept s.live (rows s.bank).places

-- how many more answers may come of them
abbrev pub awaited : {B : Type 0} → (B → Rows) → Live B → ℕ
awaited rows s = due s.live (rows s.bank).places

-- what the sets that have not ended guess of themselves, in order
abbrev pub live_hints : {B : Type 0} → (B → Rows) → Live B → List ℕ
live_hints rows s = chosen 0 s.live (rows s.bank).hints

abbrev pub live_prices : {B : Type 0} → (B → Rows) → Live B → List ℕ
live_prices rows s = chosen 0 s.live (rows s.bank).prices

-- ---- calls

-- a step at place k
pub record Advances {B : Type 0} (rows : B → Rows) (old new : Live B) (k r : ℕ) : Type 0 where
  pub steps : Stepped (at (left rows old) k) (at (left rows new) k) r
  pub others : left rows new ≡ slice_set (left rows old) k (at (left rows new) k)
  pub live : r < TERM → live_at new.live k
  pub pays : live_at old.live k → awaited rows new < awaited rows old
  pub falls : r < TERM → awaited rows new < awaited rows old
  pub never_more : awaited rows new ≤ awaited rows old

-- the score at place k
pub record Scores {B : Type 0} (rows : B → Rows) (old new : Live B) (k : ℕ) (r : Float) : Type 0 where
  pub tells : Scored (at (left rows old) k) (at (left rows new) k) r
  pub others : left rows new ≡ slice_set (left rows old) k (at (left rows new) k)
  pub live : new.live ≡ old.live
  pub pays : awaited rows new ≤ awaited rows old

-- the score at place k, or any number where the combiner's step `take` makes the same of all
pub record Wanted {B : Type 0} (take : Tally → Float → Tally) (rows : B → Rows) (old new : Live B) (k : ℕ) (r : Float) : Type 0 where
  pub same : Steady (at (left rows old) k) → at (left rows new) k ≡ at (left rows old) k
  pub alike : Steady (at (left rows old) k) → (t : Tally) → take t r ≡ take t (first_score (at (left rows old) k).pairs)
  pub others : left rows new ≡ slice_set (left rows old) k (at (left rows new) k)
  pub live : new.live ≡ old.live
  pub pays : awaited rows new ≤ awaited rows old

-- the set at place k sought to t
pub record Sent {B : Type 0} (t : ℕ) (rows : B → Rows) (old new : Live B) (k : ℕ) : Type 0 where
  pub rises : Steady (at (left rows old) k) → Rising 0 (at (left rows old) k).pairs
  pub becomes : Steady (at (left rows old) k) → at (left rows new) k ≡ calm (from t (at (left rows old) k).pairs)
  pub others : left rows new ≡ slice_set (left rows old) k (at (left rows new) k)
  pub pays : awaited rows new ≤ awaited rows old

-- every set sought to t
pub record AllSent {B : Type 0} (t : ℕ) (rows : B → Rows) (old new : Live B) : Type 0 where
  pub rises : AllSteady (left rows old) → AllRising (left rows old)
  pub becomes : AllSteady (left rows old) → left rows new ≡ passed t (left rows old)
  pub pays : awaited rows new ≤ awaited rows old
