use Rattle.std.proofs.Common.{◌≡◌}
use Rattle.docset.proofs.Walking.{Seeking, ahead}
use Rattle.union.specs.Reading.{reads_on}
use Rattle.union.proofs.Ghosts.{meant}
use Rattle.union.proofs.buffered_union.BufferedUnionScorer.walk_to.Given as goal

abbrev pub invariant-loop-doc : goal.invariant-loop-doc
invariant-loop-doc g l =
    Seeking l.target
    (meant g.B.Bank.rows g.C.ScoreCombiner.taken g.C.ScoreCombiner.told l.initial.self)
    (meant g.B.Bank.rows g.C.ScoreCombiner.taken g.C.ScoreCombiner.told l.self)
    l.doc
    × reads_on g.B.Bank.rows l.initial.self l.self
    × (l.self.doc ≡ l.doc)
    × (l.self.num_docs ≡ l.initial.self.num_docs)

abbrev pub decreases-loop-doc : goal.decreases-loop-doc
decreases-loop-doc g l = ahead (meant g.B.Bank.rows g.C.ScoreCombiner.taken g.C.ScoreCombiner.told l.self) l.doc
