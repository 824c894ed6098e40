use Rattle.std.proofs.Common.{◌≡◌, ◌+◌, ◌<◌, ◌≤◌, set}
use Rattle.window.specs.Windows.{cells}
use Rattle.bank.specs.Places.{at}
use Rattle.live.specs.Kept.{live_at}
use Rattle.live.specs.Views.{left, awaited}
use Rattle.combiner.specs.Cells.{count}
use Rattle.refill.proofs.Pours.{Pouring}
use Rattle.refill.proofs.refill.pour.Given as goal

abbrev pub invariant-loop-doc : goal.invariant-loop-doc
invariant-loop-doc g l =
    Pouring (g.C.ScoreCombiner.taken l.combiner) l.start l.end l.doc (at (left g.B.Bank.rows l.initial.sets) l.place) (at (left g.B.Bank.rows l.sets) l.place) (cells l.initial.window) (cells l.window)
    × (left g.B.Bank.rows l.sets ≡ set (left g.B.Bank.rows l.initial.sets) l.place (at (left g.B.Bank.rows l.sets) l.place))
    × (count (cells l.window) 0 4096 + awaited g.B.Bank.rows l.sets ≤ count (cells l.initial.window) 0 4096 + awaited g.B.Bank.rows l.initial.sets)
    × (l.doc < 2147483647 → live_at l.sets.live l.place)

abbrev pub decreases-loop-doc : goal.decreases-loop-doc
decreases-loop-doc g l = awaited g.B.Bank.rows l.sets
