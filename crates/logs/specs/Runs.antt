-- The logs that sets can have, by nothing but their promises, and what these logs tell of the sets.
use Rattle.std.specs.Prelude.{◌≡◌, ℕ, ◌<◌, Bool, true, false, ◌⊎◌, List, [], ◌∷◌, length, take, ◌≢◌, Float}
use Rattle.docset.specs.declared.docset.SeekDangerResult.{SeekDangerResult}
use Rattle.docset.specs.Meaning.{Meaning, Steady}
use Rattle.docset.specs.Calls.{found, Told, Moved, Sought, Probed, Filled, Counted, CountedAlive, Scored}
use Rattle.logs.specs.declared.call.Call.{Call}
use Rattle.logs.specs.declared.call.Call.TheVariants.{Doc, Score, Advance, Seek, Probe, Block}
use Rattle.logs.specs.declared.call.Answer.{Answer}
use Rattle.logs.specs.declared.call.Answer.TheVariants.{Id, Points, Written, Number}
use Rattle.logs.specs.Plain.{after, hit, reply, End, ongoing, counted, counted_all, log, left, missed, missed_last, Legal, LegalOn}

infix 2 ◌⟺◌
-- exactly if
abbrev pub ◌⟺◌ : Type 0 → Type 0 → Type 0
P ⟺ Q = (P → Q) × (Q → P)

-- ---- runs: m is the meaning before, n the meaning after

-- what a set promises of one call and its logged answer a; a miss's bound and mark stay free
abbrev pub Promise : Call → Meaning → Meaning → Answer → Type 0
Promise Doc m n a = (r : ℕ) × (a ≡ Id r) × (n ≡ m) × Told m r
Promise Score m n a = (r : Float) × (a ≡ Points r) × Scored m n r
Promise Advance m n a = (r : ℕ) × (a ≡ Id r) × Moved m n r
Promise (Seek t) m n a = (r : ℕ) × (a ≡ Id r) × Sought t m n r
Promise (Probe t) m n a = (r : SeekDangerResult) × (a ≡ hit (found r)) × Probed t m n r
Promise (Block b) m n a = (r : ℕ) × (new : List ℕ) × (a ≡ Written r new) × Filled m n b new r

-- what it promises of the end
abbrev pub Ended : End → Meaning → List Answer → Type 0
Ended ongoing m xs = xs ≡ []
Ended (counted ws) m xs = (r : ℕ) × (xs ≡ Number r ∷ []) × CountedAlive ws m r
Ended counted_all m xs = (r : ℕ) × (xs ≡ Number r ∷ []) × Counted m r

-- the calls were made in turn, each once, then the end, and each was answered as promised
abbrev pub Runs : Meaning → List Call → End → List Answer → Meaning → Type 0
Runs m [] z xs n = (n ≡ m) × Ended z m xs
Runs m (c ∷ cs) z [] n = ⊥
Runs m (c ∷ cs) z (x ∷ xs) n = (k : Meaning) × Promise c m k x × Runs k cs z xs n

-- one call: a promise kept, and so on a steady set the plain list's answer; it stays steady unless a probe misses
pub record Asked (c : Call) (m n : Meaning) (a : Answer) : Type 0 where
  pub keeps : Promise c m n a
  pub answers : Steady m → a ≡ reply c m.pairs
  pub lists : Steady m → n.pairs ≡ after c m.pairs
  pub stays : Steady m → missed a ≡ false → Steady n

-- a log of calls: a run, and so on a steady set and legal calls the plain list's log, answer for answer; the set is steady
-- again unless the last call was a probe that missed
pub record Replayed (m n : Meaning) (cs : List Call) (z : End) (xs : List Answer) : Type 0 where
  pub runs : Runs m cs z xs n
  pub answers : Steady m → LegalOn m.pairs cs z → xs ≡ log m.pairs cs z
  pub lists : Steady m → LegalOn m.pairs cs z → n.pairs ≡ left m.pairs cs
  pub stays : Steady m → LegalOn m.pairs cs z → missed_last false xs ≡ false → Steady n

-- ---- what logs tell

-- what a program can pass: targets of 32 bits, buffers of 64 ids, alive sets in words of 64 bits
abbrev pub AllBelow : ℕ → List ℕ → Type 0
AllBelow n [] = Unit {0}
AllBelow n (x ∷ xs) = (x < n) × AllBelow n xs

abbrev pub Can : Call → Type 0
Can Doc = Unit {0}
Can Score = Unit {0}
Can Advance = Unit {0}
Can (Seek t) = t < 4294967296
Can (Probe t) = t < 4294967296
Can (Block b) = (length b ≡ 64) × AllBelow 4294967296 b

abbrev pub CanEnd : End → Type 0
CanEnd ongoing = Unit {0}
CanEnd (counted ws) = AllBelow 18446744073709551616 ws
CanEnd counted_all = Unit {0}

abbrev pub CanAll : List Call → End → Type 0
CanAll [] z = CanEnd z
CanAll (c ∷ cs) z = Can c × CanAll cs z

-- all logs with the same calls hold the same answers, whatever answers the promises of the two sets allow
abbrev pub SameLogs : Meaning → Meaning → Type 0
SameLogs m n =
    (cs : List Call) (z : End) (xs ys : List Answer) (i j : Meaning) → CanAll cs z →
    Runs m cs z xs i → Runs n cs z ys j → Legal cs z xs → Legal cs z ys → xs ≡ ys

-- f is how a set does answer: whatever calls are made on it, f of them are its answers
abbrev pub Tells : Meaning → (List Call → End → List Answer) → Type 0
Tells m f = (cs : List Call) (z : End) → CanAll cs z → (n : Meaning) × Runs m cs z (f cs z) n

-- all logs with the same calls hold the same answers, of two sets that do answer by f and g
abbrev pub SameTold : (List Call → End → List Answer) → (List Call → End → List Answer) → Type 0
SameTold f g = (cs : List Call) (z : End) → CanAll cs z → Legal cs z (f cs z) → Legal cs z (g cs z) → f cs z ≡ g cs z

-- two steady sets answer all logs alike exactly if they list the same ids and scores
pub record ToldApart (m n : Meaning) : Type 0 where
  pub promised : SameLogs m n ⟺ (m.pairs ≡ n.pairs)
  pub told : (f g : List Call → End → List Answer) → Tells m f → Tells n g → SameTold f g ⟺ (m.pairs ≡ n.pairs)

-- r tells whether two steady sets list the same ids and scores, and so whether all their logs are the same: all that
-- their promises allow, and all that they do give
pub record Alike (m n : Meaning) (r : Bool) : Type 0 where
  pub lists : Steady m → Steady n → (r ≡ true) ⟺ (m.pairs ≡ n.pairs)
  pub logs : Steady m → Steady n → (r ≡ true) ⟺ SameLogs m n
  pub told :
      Steady m → Steady n → (f g : List Call → End → List Answer) → Tells m f → Tells n g → (r ≡ true) ⟺ SameTold f g

-- ds and y are the first of the calls cs, or all of them and their end z
abbrev pub Begins : List Call → End → List Call → End → Type 0
Begins ds y cs z = ((k : ℕ) × (ds ≡ take k cs) × (y ≡ ongoing)) ⊎ ((ds ≡ cs) × (y ≡ z))

-- r tells whether two sets that were asked the same gave the same answers; i and j are what was left of m and n
pub record Agreed (m n i j : Meaning) (cs : List Call) (z : End) (r : Bool) : Type 0 where
  pub same : r ≡ true → (xs : List Answer) × Runs m cs z xs i × Runs n cs z xs j
  pub differ :
      r ≡ false →
      (ds : List Call) × (y : End) × (xs : List Answer) × (ys : List Answer) ×
      Begins ds y cs z × Runs m ds y xs i × Runs n ds y ys j × (xs ≢ ys)
  pub plain : Steady m → Steady n → LegalOn m.pairs cs z → (r ≡ true) ⟺ (log m.pairs cs z ≡ log n.pairs cs z)
