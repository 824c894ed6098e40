use Rattle.std.proofs.Common.{cond}
use Rattle.docset.specs.Bits.{bit_set}
use Rattle.docset.proofs.Walking.{Counting, ahead}
use Rattle.docset.proofs.docset.DocSet.count.Given as goal

abbrev pub invariant-loop-doc : goal.invariant-loop-doc
invariant-loop-doc g l =
    Counting (λ d. cond (bit_set l.alive_bitset.words.now d) 1 0) (g.Self.DocSet.meaning l.initial.self) (g.Self.DocSet.meaning l.self) l.doc l.alive

abbrev pub decreases-loop-doc : goal.decreases-loop-doc
decreases-loop-doc g l = ahead (g.Self.DocSet.meaning l.self) l.doc
