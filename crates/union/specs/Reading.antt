-- How far a union has read its sets. `rows` tells the sets of a bank; u is the union before a call and v after it.
use Rattle.std.specs.Prelude.{ℕ, List}
use Rattle.docset.specs.Meaning.{Meaning, Pair}
use Rattle.bank.specs.Places.{Rows}
use Rattle.live.specs.Views.{left}
use Rattle.refill.specs.State.{bound, Reads, ReadsThrough, trail}
use Rattle.union.specs.declared.buffered_union.BufferedUnionScorer.{BufferedUnionScorer}

-- what its sets have left
abbrev pub left_of : {B C : Type 0} → (B → Rows) → BufferedUnionScorer B C → List Meaning
left_of rows u = left rows u.sets

-- a call has read to where v stands
abbrev pub reads_on : {B C : Type 0} → (B → Rows) → BufferedUnionScorer B C → BufferedUnionScorer B C → Type 0
reads_on rows u v = Reads (bound u.start u.doc) v.doc v.start (left_of rows u) (left_of rows v)

-- a call has gone n documents on over the list ps, one by one
abbrev pub reads_through : {B C : Type 0} → (B → Rows) → ℕ → List Pair → BufferedUnionScorer B C → BufferedUnionScorer B C → Type 0
reads_through rows n ps u v = ReadsThrough (bound u.start u.doc) (trail n ps) v.doc v.start (left_of rows u) (left_of rows v)
