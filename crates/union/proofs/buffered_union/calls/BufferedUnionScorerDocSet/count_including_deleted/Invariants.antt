use Rattle.std.proofs.Common.{◌≡◌, ◌+◌, ◌≤◌, length}
use Rattle.docset.specs.Meaning.{TERM, Steady}
use Rattle.union.proofs.Ghosts.{meant}
use Rattle.union.proofs.buffered_union.calls.BufferedUnionScorerDocSet.count_including_deleted.Given as goal

abbrev pub invariant-loop-doc : goal.invariant-loop-doc
invariant-loop-doc g l =
    let m = meant g.B.Bank.rows g.C.ScoreCombiner.taken g.C.ScoreCombiner.told l.initial.self in
    let n = meant g.B.Bank.rows g.C.ScoreCombiner.taken g.C.ScoreCombiner.told l.self in
    (l.self.doc ≡ l.doc)
    × (Steady m → Steady n)
    × (Steady m → l.count + length n.pairs ≡ length m.pairs)
    × (Steady m → length m.pairs ≤ TERM)

abbrev pub decreases-loop-doc : goal.decreases-loop-doc
decreases-loop-doc g l = length (meant g.B.Bank.rows g.C.ScoreCombiner.taken g.C.ScoreCombiner.told l.self).pairs
