use Rattle.std.proofs.Common.{◌≡◌}
use Rattle.docset.specs.Meaning.{Steady}
use Rattle.docset.proofs.Walking.{Seeking, ahead}
use Rattle.threshold.specs.State.{left_of, threshold_meaning, read_to, unread_of, doc_of}
use Rattle.threshold.proofs.disjunction.calls.DisjunctionDocSet.seek.Given as goal

abbrev pub invariant-loop-doc : goal.invariant-loop-doc
invariant-loop-doc g l =
    Seeking l.target (threshold_meaning g.B.Bank.rows g.C.ScoreCombiner.taken g.C.ScoreCombiner.told l.initial.self) (threshold_meaning g.B.Bank.rows g.C.ScoreCombiner.taken g.C.ScoreCombiner.told l.self) l.doc
    × (unread_of l.self ≡ unread_of l.initial.self)
    × (doc_of l.self ≡ l.doc)
    × (Steady (threshold_meaning g.B.Bank.rows g.C.ScoreCombiner.taken g.C.ScoreCombiner.told l.initial.self) → left_of g.B.Bank.rows l.self ≡ read_to (unread_of l.initial.self) l.doc (left_of g.B.Bank.rows l.initial.self))

abbrev pub decreases-loop-doc : goal.decreases-loop-doc
decreases-loop-doc g l = ahead (threshold_meaning g.B.Bank.rows g.C.ScoreCombiner.taken g.C.ScoreCombiner.told l.self) l.doc
