use Rattle.docset.proofs.Walking.{Seeking, ahead}
use Rattle.docset.proofs.docset.DocSet.seek.Given as goal

abbrev pub invariant-loop-doc : goal.invariant-loop-doc
invariant-loop-doc g l = Seeking l.target (g.Self.DocSet.meaning l.initial.self) (g.Self.DocSet.meaning l.self) l.doc

abbrev pub decreases-loop-doc : goal.decreases-loop-doc
decreases-loop-doc g l = ahead (g.Self.DocSet.meaning l.self) l.doc
