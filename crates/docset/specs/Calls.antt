-- What each call of a document set promises. m is the meaning before the call, n the meaning after it, r the answer.
-- What is said under `Steady m` or `Known m.mark` holds of such sets; the rest holds of every set.
use Rattle.std.specs.Prelude.{◌≡◌, ℕ, suc, ◌<◌, ◌≤◌, Bool, true, false, ◌⊎◌, List, ◌++◌, length, take, drop, Float}
use Rattle.docset.specs.Meaning.{Meaning, Mark, steady, Pair, TERM, Steady, Known, calm, ids, first_id, first_score, rest, from, has, probed, Rising}
use Rattle.docset.specs.Bits.{count_alive}
use Rattle.docset.specs.declared.docset.SeekDangerResult.{SeekDangerResult}
use Rattle.docset.specs.declared.docset.SeekDangerResult.TheVariants.{Found, SeekLowerBound}

-- `doc`: the first id. That ids rise is told here, since it can be told nowhere else of a type with a lifetime.
pub record Told (m : Meaning) (r : ℕ) : Type 0 where
  pub an_id : r ≤ TERM
  pub rises : Known m.mark → Rising 0 m.pairs
  pub tells : Steady m → r ≡ first_id m.pairs

-- `advance`: the first pair is dropped
pub record Moved (m n : Meaning) (r : ℕ) : Type 0 where
  pub an_id : r ≤ TERM
  pub shrinks : length n.pairs ≤ length m.pairs
  pub drops : (length n.pairs < length m.pairs) ⊎ (r ≡ TERM)
  pub becomes : Steady m → n ≡ calm (rest m.pairs)
  pub tells : Steady m → r ≡ first_id (rest m.pairs)

-- `seek`: the pairs below t are dropped; t is any number
pub record Sought (t : ℕ) (m n : Meaning) (r : ℕ) : Type 0 where
  pub an_id : r ≤ TERM
  pub shrinks : length n.pairs ≤ length m.pairs
  pub becomes : Steady m → n ≡ calm (from t m.pairs)
  pub tells : Steady m → r ≡ first_id (from t m.pairs)

abbrev pub found : SeekDangerResult → Bool
found Found = true
found (SeekLowerBound b) = false

-- a miss's bound is TERM, or lies above t and not above the next listed id; which of these is left to the set
abbrev pub Bounds : ℕ → List Pair → SeekDangerResult → Type 0
Bounds t ps Found = Unit {0}
Bounds t ps (SeekLowerBound b) = (b ≡ TERM) ⊎ ((t < b) × (b ≤ first_id (from (suc t) ps)))

-- a find leaves the set steady; a miss leaves it steady or astray, as the set likes
abbrev pub Marks : SeekDangerResult → Mark → Type 0
Marks Found k = k ≡ steady
Marks (SeekLowerBound b) k = Known k

abbrev pub AnId : SeekDangerResult → Type 0
AnId Found = Unit {0}
AnId (SeekLowerBound b) = b ≤ TERM

-- what a probe of t promises where it promises anything
pub record Answered (t : ℕ) (m n : Meaning) (r : SeekDangerResult) : Type 0 where
  pub tells : found r ≡ has t m.pairs
  pub leaves : n.pairs ≡ probed t m.pairs
  pub marks : Marks r n.mark
  pub bounds : Bounds t m.pairs r

-- `seek_danger`, a probe: Found exactly if t is listed, on steady and astray sets; t is any number
pub record Probed (t : ℕ) (m n : Meaning) (r : SeekDangerResult) : Type 0 where
  pub an_id : AnId r
  pub shrinks : length n.pairs ≤ length m.pairs
  pub answers : Known m.mark → Answered t m n r

-- a probe by `doc` and `seek`, which can be promised on steady sets only
pub record ProbedSteady (t : ℕ) (m n : Meaning) (r : SeekDangerResult) : Type 0 where
  pub an_id : AnId r
  pub shrinks : length n.pairs ≤ length m.pairs
  pub answers : Steady m → Answered t m n r

-- `fill_buffer`: the first ids, at most 64, go to the front of the buffer, and their pairs are dropped
pub record Filled (m n : Meaning) (old new : List ℕ) (r : ℕ) : Type 0 where
  pub at_most : r ≤ 64
  pub shrinks : length n.pairs ≤ length m.pairs
  pub becomes : Steady m → n ≡ calm (drop 64 m.pairs)
  pub writes : Steady m → new ≡ take 64 (ids m.pairs) ++ drop r old
  pub tells : Steady m → r ≡ length (take 64 m.pairs)

-- `count`: how many listed ids are alive
pub record CountedAlive (ws : List ℕ) (m : Meaning) (r : ℕ) : Type 0 where
  pub tells : Steady m → r ≡ count_alive ws m.pairs

-- `count_including_deleted`: how many ids are listed
pub record Counted (m : Meaning) (r : ℕ) : Type 0 where
  pub tells : Steady m → r ≡ length m.pairs

-- `score`: the first score; nothing is dropped
pub record Scored (m n : Meaning) (r : Float) : Type 0 where
  pub shrinks : length n.pairs ≤ length m.pairs
  pub same : Steady m → n ≡ m
  pub tells : Steady m → r ≡ first_score m.pairs
