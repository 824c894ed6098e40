-- A union that stands on a document, with a window from the id s on that holds the cells a, over the sets ms.
-- `take` is the combiner's step and `tell` what it tells of a tally. doc is the current document and x its score.
use Rattle.std.specs.Prelude.{◌≡◌, ℕ, zero, suc, ◌+◌, ◌-◌, ◌≤◌, Bool, true, cond, ◌&&◌, List, [], ◌∷◌, length, replicate, nat_le, nat_lt, Float}
use Rattle.docset.specs.Meaning.{Meaning, Pair, lost, TERM, Steady, calm, first_id, rest}
use Rattle.combiner.specs.declared.score_combiner.Tally.{Tally}
use Rattle.combiner.specs.Cells.{Cell, listed, count}
use Rattle.live.specs.Sets.{lowest_of, AllSteady, AllRising, all_steady, passed}
use Rattle.live.specs.Lists.{united, union_list}
use Rattle.live.specs.Kept.{kept, due}
use Rattle.window.specs.declared.window.Window.{Window}
use Rattle.window.specs.Windows.{cells}
use Rattle.refill.specs.Refills.{reach}

-- ---- what it means

-- how far the sets are read: to the window's end, and all of them once the union has ended
abbrev pub bound : ℕ → ℕ → ℕ
bound s doc = cond (nat_lt doc TERM) (reach s) TERM

-- every set is steady and read to h
unfoldable pub settled : ℕ → List Meaning → Bool
settled h ms = all_steady ms && nat_le h (lowest_of ms)

-- what is gathered for an id past the current one: in the window, and past its end of the sets
unfoldable pub ahead : (Tally → Float → Tally) → ℕ → (ℕ → Cell) → List Meaning → ℕ → Cell
ahead take s a ms d = cond (nat_lt d (reach s)) (a (d - s)) (united take ms d)

-- the current pair, and what comes after it
unfoldable pub standing : (Tally → Float) → (ℕ → Cell) → ℕ → Float → List Pair
standing tell cells doc x =
    cond (nat_lt doc TERM) (record { id = doc; score = x } ∷ listed tell cells (suc doc) (TERM - suc doc)) []

-- 1 while there is a current document
abbrev pub on : ℕ → ℕ
on doc = cond (nat_lt doc TERM) 1 0

-- Over sets that are not settled only a length is promised: the current document, what the window holds, and what may still
-- come of the sets, which is n. Every call keeps settled sets settled.
unfoldable pub union_meaning :
    (Tally → Float → Tally) → (Tally → Float) → ℕ → ℕ → Float → (ℕ → Cell) → List Meaning → ℕ → Meaning
union_meaning take tell s doc x a ms n =
    cond (settled (bound s doc) ms)
    (calm (standing tell (ahead take s a ms) doc x))
    (record { pairs = replicate (on doc + count a 0 4096 + n) (record { id = doc; score = x }); mark = lost })

-- the same from the parts of a union: its window, and the flags and sets of its bank
abbrev pub union_means :
    (Tally → Float → Tally) → (Tally → Float) → ℕ → ℕ → Float → Window → List Bool → List Meaning → Meaning
union_means take tell s doc x w live P =
    union_meaning take tell s doc x (cells w) (kept live P) (due live P)

-- ---- how far it has read

-- the sets P, of which n answers may come, are opened: a window starts at their lowest id, and the union stands on r, its first
pub record Opened (take : Tally → Float → Tally) (tell : Tally → Float) (P : List Meaning) (n : ℕ) (m : Meaning) (r : ℕ) : Type 0 where
  pub an_id : r ≤ TERM
  pub rises : AllSteady P → AllRising P
  pub becomes : AllSteady P → m ≡ calm (union_list take tell P)
  pub tells : Steady m → r ≡ first_id m.pairs
  pub small : length m.pairs ≤ n

-- the sets P are then read to the end of that window: Q is left of them, and the window starts at s
pub record Anew (P Q : List Meaning) (s r : ℕ) : Type 0 where
  pub lowest : AllSteady P → r ≡ lowest_of P
  pub list : AllSteady P → Q ≡ passed (reach r) P
  pub begins : AllSteady P → bound s r ≡ reach r

-- how far the sets are read once the union stands on d, if they were read to h before: a window is opened only at a
-- document that stands at or past h, and starts there
abbrev pub next_reach : ℕ → ℕ → ℕ
next_reach h d = cond (nat_lt d h) h (reach d)

-- what a call has read that ends on d: the sets P are left as Q, and the window starts at s
pub record Reads (h d s : ℕ) (P Q : List Meaning) : Type 0 where
  pub list : settled h P ≡ true → Q ≡ passed (next_reach h d) P
  pub begins : settled h P ≡ true → bound s d ≡ next_reach h d

-- the ids that a union comes to stand on in n steps over a list
abbrev pub trail : ℕ → List Pair → List ℕ
trail zero ps = []
trail (suc n) ps = first_id (rest ps) ∷ trail n (rest ps)

-- how far the sets are read once it has stood on these ids, one after the other
abbrev pub reach_after : ℕ → List ℕ → ℕ
reach_after h [] = h
reach_after h (d ∷ ds) = reach_after (next_reach h d) ds

-- what a call has read that stands on the ids ds one by one, the last of them d
pub record ReadsThrough (h : ℕ) (ds : List ℕ) (d s : ℕ) (P Q : List Meaning) : Type 0 where
  pub list : settled h P ≡ true → Q ≡ passed (reach_after h ds) P
  pub begins : settled h P ≡ true → bound s d ≡ reach_after h ds
