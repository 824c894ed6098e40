use Rattle.std.proofs.Common.{◌≡◌}
use Rattle.docset.specs.Meaning.{TERM}
use Rattle.docset.proofs.Walking.{Filling}
use Rattle.docset.proofs.docset.DocSet.fill_by_advance.Given as goal

abbrev pub invariant-loop-place : goal.invariant-loop-place
invariant-loop-place g l =
    Filling (g.Self.DocSet.meaning l.initial.self) (g.Self.DocSet.meaning l.self) l.initial.buffer l.buffer l.place l.doc
    × (l.doc ≡ TERM → ⊥)
