use Rattle.std.proofs.Common.{◌≡◌}
use Rattle.docset.proofs.Walking.{Filling, ahead}
use Rattle.union.specs.Reading.{reads_through}
use Rattle.union.proofs.Ghosts.{meant}
use Rattle.union.proofs.buffered_union.calls.BufferedUnionScorerDocSet.fill_buffer.Given as goal

abbrev pub invariant-loop-filled : goal.invariant-loop-filled
invariant-loop-filled g l =
    let m = meant g.B.Bank.rows g.C.ScoreCombiner.taken g.C.ScoreCombiner.told l.initial.self in
    Filling m (meant g.B.Bank.rows g.C.ScoreCombiner.taken g.C.ScoreCombiner.told l.self) l.initial.buffer l.buffer l.filled l.doc
    × reads_through g.B.Bank.rows l.filled m.pairs l.initial.self l.self
    × (l.self.doc ≡ l.doc)
    × (l.self.num_docs ≡ l.initial.self.num_docs)

abbrev pub decreases-loop-filled : goal.decreases-loop-filled
decreases-loop-filled g l = ahead (meant g.B.Bank.rows g.C.ScoreCombiner.taken g.C.ScoreCombiner.told l.self) l.doc
