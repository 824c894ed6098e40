use Rattle.docset.proofs.Walking.{ahead}
use Rattle.logs.proofs.Tracks.{Tracked}
use Rattle.logs.proofs.alike.alike.Given as goal

abbrev pub invariant-loop-doc : goal.invariant-loop-doc
invariant-loop-doc g l =
    Tracked (g.P.DocSet.meaning l.initial.p) (g.Q.DocSet.meaning l.initial.q) (g.P.DocSet.meaning l.p) (g.Q.DocSet.meaning l.q) l.doc l.other

abbrev pub decreases-loop-doc : goal.decreases-loop-doc
decreases-loop-doc g l = ahead (g.P.DocSet.meaning l.p) l.doc
