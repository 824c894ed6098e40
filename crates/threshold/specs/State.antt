-- What a threshold over several sets means: its current document, and the threshold of what its sets have left.
use Rattle.std.specs.Prelude.{◌≡◌, ℕ, suc, ◌+◌, Bool, true, cond, ◌&&◌, ◌||◌, List, [], ◌∷◌, length, replicate, Some, None, Option, ◌==◌, nat_lt, Float}
use Rattle.docset.specs.Meaning.{Meaning, Pair, lost, TERM, calm}
use Rattle.docset.specs.declared.refusal.Refusal.{Refusal}
use Rattle.docset.specs.declared.refusal.Refusal.TheVariants.{TooManySets, MinimumZero}
use Rattle.combiner.specs.declared.score_combiner.Tally.{Tally}
use Rattle.heap.specs.declared.order.Entry.{Entry}
use Rattle.live.specs.Sets.{passed, lowest_of, all_steady, all_rising}
use Rattle.live.specs.Kept.{greatest}
use Rattle.live.specs.Lists.{threshold_list}
use Rattle.live.specs.Views.{left, awaited}
use Rattle.bank.specs.Places.{Rows}
use Rattle.threshold.specs.Entries.{matches, Ready}
use Rattle.threshold.specs.Stands.{unread, doc_at, score_at}
use Rattle.threshold.specs.declared.queue.Queue.{Queue}
use Rattle.threshold.specs.declared.disjunction.Disjunction.{Disjunction}

-- ---- refusals

-- of n sets: more than 32 come first, then a minimum of 0
abbrev pub refusal_of : ℕ → ℕ → Option Refusal
refusal_of n least = cond (nat_lt 32 n) (Some TooManySets) (cond (least == 0) (Some MinimumZero) None)

-- ---- the meaning

-- every set is read past the current document
abbrev pub read_past : ℕ → List Meaning → Bool
read_past doc ms = cond (nat_lt doc TERM) (nat_lt doc (lowest_of ms)) true

-- steady sets that are read past the current document, and their entries. That ids rise and that the entries are those of
-- the sets is so of every threshold over steady sets: the sets promise the one, and every builder and call sees to the other.
abbrev pub fit : ℕ → List Meaning → List Entry → Bool
fit doc ms es = (all_steady ms && all_rising ms) && (read_past doc ms && matches 0 ms es)

-- the current document, and what comes after it
unfoldable pub standing : ℕ → (Tally → Float → Tally) → (Tally → Float) → ℕ → Float → List Meaning → List Pair
standing least take tell doc x ms =
    cond (nat_lt doc TERM) (record { id = doc; score = x } ∷ threshold_list least take tell ms) []

-- where they do not fit, a list of which only a length is promised
unfoldable pub means :
    ℕ → (Tally → Float → Tally) → (Tally → Float) → ℕ → Float → List Entry → List Meaning → ℕ → Meaning
means least take tell doc x es ms room =
    cond (fit doc ms es) (calm (standing least take tell doc x ms))
    (record { pairs = replicate room (record { id = doc; score = x }); mark = lost })

-- 1 while there is a current document, or the sets are yet to be read
abbrev pub on : ℕ → Bool → ℕ
on doc unread = cond (nat_lt doc TERM || unread) 1 0

-- how many entries stand in the queue and how many answers may still come of its sets: with each document that a threshold comes to
-- it is one less
abbrev pub room : {B : Type 0} → (B → Rows) → Queue B → ℕ
room rows q = length q.chains + awaited rows q.sets

-- whether the sets are yet to be read
abbrev pub unread_of : {B C : Type 0} → Disjunction B C → Bool
unread_of d = unread d.stand

-- the current document, TERM where there is none
abbrev pub doc_of : {B C : Type 0} → Disjunction B C → ℕ
doc_of d = doc_at d.stand

-- the score of the current document
abbrev pub score_of : {B C : Type 0} → Disjunction B C → Float
score_of d = score_at d.stand

-- what the sets have left
abbrev pub left_of : {B C : Type 0} → (B → Rows) → Disjunction B C → List Meaning
left_of rows d = left rows d.queue.sets

abbrev pub threshold_meaning :
    {B C : Type 0} → (B → Rows) → (C → Tally → Float → Tally) → (C → Tally → Float) → Disjunction B C → Meaning
threshold_meaning rows take tell d =
    means d.minimum (take d.combiner) (tell d.combiner) (doc_of d) (score_of d) d.queue.chains (left_of rows d)
    (on (doc_of d) (unread_of d) + room rows d.queue)

-- the greatest of the sets' guesses while any set has something left, or all are yet to be read
abbrev pub guess_of : {B C : Type 0} → (B → List ℕ) → Disjunction B C → ℕ
guess_of guesses d = cond (unread_of d || nat_lt 0 (length d.queue.chains)) (greatest (guesses d.queue.sets.bank)) 0

-- ---- how far the sets are read

-- past the document that the threshold has come to; not at all while they are yet to be read
abbrev pub read_to : Bool → ℕ → List Meaning → List Meaning
read_to unread doc ms = cond unread ms (passed (suc doc) ms)

-- the next document of the sets P is d, at the score x, or there is none
pub record Comes (least : ℕ) (take : Tally → Float → Tally) (tell : Tally → Float) (P Q : List Meaning) (E F : List Entry) (d : ℕ) (x : Float) : Type 0 where
  pub ready : Ready P E → Ready Q F
  pub reads : Ready P E → Q ≡ passed (suc d) P
  pub list : Ready P E → standing least take tell d x Q ≡ threshold_list least take tell P
