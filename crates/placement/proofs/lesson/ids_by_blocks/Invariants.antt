use Rattle.std.proofs.Common.{◌≡◌, length, vec_items}
use Rattle.placement.proofs.Blocks.{Sofar}
use Rattle.docset.specs.Meaning.{Steady}
use Rattle.placement.proofs.lesson.ids_by_blocks.Given as goal

abbrev pub invariant-loop-turn : goal.invariant-loop-turn
invariant-loop-turn g l =
    (length l.block ≡ 64) ×
    (Steady (g.S.DocSet.meaning l.initial.set) → Sofar (g.S.DocSet.meaning l.initial.set) (g.S.DocSet.meaning l.set) (vec_items l.ids) l._turn)
