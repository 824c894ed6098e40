-- What is shown of a set's list.
use Rattle.std.specs.Prelude.{◌≡◌, ℕ, min, Bool, List, map, length, take, drop, to_bits}
use Rattle.std.specs.Float.{binary32}
use Rattle.docset.specs.Meaning.{Pair}
use Rattle.heap.specs.declared.hit.Hit.{Hit}
use Rattle.heap.specs.Scores.{hit_cmp}
use Rattle.heap.specs.Ranks.{no_later, InOrder}
use Rattle.heap.specs.Best.{BestOf, roomOf}

-- a listed pair as a hit: the bits of its score, every NaN the same, and its id
abbrev pub hit_of : Pair → Hit
hit_of p = record { bits = to_bits binary32 p.score; id = p.id }

abbrev pub hits : List Pair → List Hit
hits = map hit_of

-- the order of hits: the higher score first, by IEEE 754's totalOrder with a NaN above each number, then the lower id
abbrev pub outranks : Hit → Hit → Bool
outranks = no_later hit_cmp

-- Of all these hits the best stand in the first places, best first, and nothing else; as many as there are, at most one for each
-- place, at most 64. Later places are as they were.
pub record Shown (all : List Hit) (old new : List Hit) (count : ℕ) : Type 0 where
  pub many : count ≡ min (roomOf old) (length all)
  pub best : BestOf outranks all (take count new)
  pub ordered : InOrder outranks new count
  pub later : drop count new ≡ drop count old
