-- The entries in a threshold's heap: for each set that has something left its first id and its place.
-- P are the sets before a call and Q after it, E the entries before it and F after it.
use Rattle.std.specs.Prelude.{◌≡◌, ℕ, suc, ◌+◌, ◌<◌, ◌≤◌, Bool, true, false, cond, ◌&&◌, ◌||◌, List, [], ◌∷◌, length, take, sum_by, ◌==◌, nat_lt, slice_index_or, slice_set, Float}
use Rattle.docset.specs.Meaning.{Meaning, TERM, calm, rest, first_id, first_score}
use Rattle.combiner.specs.declared.score_combiner.Tally.{Tally}
use Rattle.combiner.specs.Cells.{some}
use Rattle.bank.specs.Places.{at}
use Rattle.heap.specs.declared.order.Entry.{Entry}
use Rattle.heap.specs.declared.heap.Top.TheVariants.{First}
use Rattle.heap.specs.Ranks.{lex, IsHeap}
use Rattle.live.specs.Sets.{passed, lowest_of, AllSteady, AllRising}
use Rattle.live.specs.Kept.{none_left}
use Rattle.live.specs.Lists.{scores_at, united}

-- ---- which entries belong to the sets

abbrev pub entry_of : ℕ → Meaning → Entry
entry_of k m = record { id = first_id m.pairs; place = k }

abbrev pub same_entry : Entry → Entry → Bool
same_entry a b = a.id == b.id && a.place == b.place

abbrev pub among : Entry → List Entry → Bool
among e [] = false
among e (x ∷ xs) = same_entry e x || among e xs

-- one such entry taken out
abbrev pub one_less : Entry → List Entry → List Entry
one_less e [] = []
one_less e (x ∷ xs) = cond (same_entry e x) xs (x ∷ one_less e xs)

-- the entries are, in some order, those of the sets that have something left, the first of which stands at place k
abbrev pub matches : ℕ → List Meaning → List Entry → Bool
matches k [] [] = true
matches k [] (e ∷ es) = false
matches k (m ∷ ms) es =
    cond (none_left m.pairs) (matches (suc k) ms es)
    (among (entry_of k m) es && matches (suc k) ms (one_less (entry_of k m) es))

-- ---- the heap

-- the lower id first, and of equal ids the lower place
abbrev pub earlier : Entry → Entry → Bool
earlier a b = lex a.id a.place b.id b.place

-- 1 for an entry whose id is none
abbrev pub no_id : Entry → ℕ
no_id e = cond (nat_lt e.id TERM) 0 1

-- the first n of 32 places are a heap of entries with ids
pub record Heaped (xs : List Entry) (n : ℕ) : Type 0 where
  pub size : length xs ≡ 32
  pub few : n ≤ 32
  pub heap : IsHeap earlier First xs n
  pub ids : sum_by no_id (take n xs) ≡ 0

-- e is the top of the entries E, at most 32: it has an id, and is earlier than each of them
pub record Tops (E : List Entry) (e : Entry) : Type 0 where
  pub some : 0 < length E
  pub few : length E ≤ 32
  pub first : (d : Entry) → slice_index_or E 0 d ≡ e
  pub an_id : e.id < TERM
  pub leads : (k : ℕ) → k < length E → earlier e (slice_index_or E k e) ≡ true

-- ---- steps over steady sets

-- a number for each entry that belongs to the sets, summed
abbrev pub weight : (Entry → ℕ) → ℕ → Meaning → ℕ
weight f k m = cond (none_left m.pairs) 0 (f (entry_of k m))

abbrev pub weights : (Entry → ℕ) → ℕ → List Meaning → ℕ
weights f k [] = 0
weights f k (m ∷ ms) = weight f k m + weights f (suc k) ms

-- steady sets whose ids rise, and the entries that belong to them: every sum over the entries is the one over the sets
pub record Ready (P : List Meaning) (E : List Entry) : Type 0 where
  pub steady : AllSteady P
  pub rises : AllRising P
  pub counts : (f : Entry → ℕ) → sum_by f E ≡ weights f 0 P

-- the score of the set at the top is taken, from the tally t to u, and the set goes on
pub record Taken (take : Tally → Float → Tally) (top : Entry) (P Q : List Meaning) (E F : List Entry) (t u : Tally) : Type 0 where
  pub ready : Ready P E → Ready Q F
  pub moves : Ready P E → Q ≡ slice_set P top.place (calm (rest (at P top.place).pairs))
  pub takes : Ready P E → u ≡ take t (first_score (at P top.place).pairs)

-- every set that lists the lowest id d is read past it: n sets, whose scores come to the tally t
pub record Gathered (take : Tally → Float → Tally) (d : ℕ) (P Q : List Meaning) (E F : List Entry) (n : ℕ) (t : Tally) : Type 0 where
  pub ready : Ready P E → Ready Q F
  pub lowest : Ready P E → d ≡ lowest_of P
  pub reads : Ready P E → Q ≡ passed (suc d) P
  pub counts : Ready P E → n ≡ length (scores_at d P)
  pub tallies : Ready P E → united take P d ≡ some t
