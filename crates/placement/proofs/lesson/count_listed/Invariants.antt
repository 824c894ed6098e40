use Rattle.std.proofs.Common.{◌≤◌, drop}
use Rattle.docset.specs.Meaning.{Known, RisingIds}
use Rattle.placement.proofs.Probing.{Sofar}
use Rattle.placement.proofs.lesson.count_listed.Given as goal

abbrev pub invariant-loop-id : goal.invariant-loop-id
invariant-loop-id g l =
    (l.count ≤ l.id-index) ×
    (Known (g.S.DocSet.meaning l.initial.set).mark → RisingIds 0 l.ids →
    Sofar (g.S.DocSet.meaning l.initial.set) (g.S.DocSet.meaning l.set) l.ids (drop l.id-index l.ids) l.count)
