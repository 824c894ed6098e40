use Rattle.docset.proofs.Walking.{Counting, ahead}
use Rattle.docset.proofs.docset.DocSet.count_including_deleted.Given as goal

abbrev pub invariant-loop-doc : goal.invariant-loop-doc
invariant-loop-doc g l = Counting (λ _. 1) (g.Self.DocSet.meaning l.initial.self) (g.Self.DocSet.meaning l.self) l.doc l.count

abbrev pub decreases-loop-doc : goal.decreases-loop-doc
decreases-loop-doc g l = ahead (g.Self.DocSet.meaning l.self) l.doc
