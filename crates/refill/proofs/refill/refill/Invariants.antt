use Rattle.std.proofs.Common.{◌+◌, ◌≤◌}
use Rattle.window.specs.Windows.{cells}
use Rattle.live.specs.Views.{left, awaited}
use Rattle.combiner.specs.Cells.{count}
use Rattle.refill.specs.Refills.{reach}
use Rattle.refill.proofs.Pours.{Filling}
use Rattle.refill.proofs.refill.refill.Given as goal

abbrev pub invariant-loop-place : goal.invariant-loop-place
invariant-loop-place g l =
    Filling (g.C.ScoreCombiner.taken l.combiner) l.start (reach l.start) l.place (left g.B.Bank.rows l.initial.sets) (left g.B.Bank.rows l.sets) (cells l.initial.window) (cells l.window)
    × (count (cells l.window) 0 4096 + awaited g.B.Bank.rows l.sets ≤ count (cells l.initial.window) 0 4096 + awaited g.B.Bank.rows l.initial.sets)
