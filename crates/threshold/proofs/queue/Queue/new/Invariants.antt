use Rattle.std.proofs.Common.{◌≤◌, length}
use Rattle.live.specs.Views.{left}
use Rattle.threshold.proofs.Groups.{Loading}
use Rattle.threshold.proofs.queue.Queue.new.Given as goal

abbrev pub invariant-loop-place : goal.invariant-loop-place
invariant-loop-place g l =
    (length l.chains ≤ l.place) × Loading (left g.B.Bank.rows l.sets) l.chains l.place
