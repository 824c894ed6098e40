use Rattle.std.proofs.Common.{vec_items}
use Rattle.docset.proofs.Walking.{ahead}
use Rattle.pick.proofs.Draining.{Draining}
use Rattle.pick.proofs.hits_of.Given as goal

abbrev pub invariant-loop-doc : goal.invariant-loop-doc
invariant-loop-doc g l =
    Draining (g.S.DocSet.meaning l.initial.set) (g.S.DocSet.meaning l.set) l.doc (vec_items l.found)

abbrev pub decreases-loop-doc : goal.decreases-loop-doc
decreases-loop-doc g l = ahead (g.S.DocSet.meaning l.set) l.doc
