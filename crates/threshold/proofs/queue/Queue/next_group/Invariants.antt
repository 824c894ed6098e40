use Rattle.std.proofs.Common.{◌≤◌}
use Rattle.live.specs.Views.{left}
use Rattle.threshold.specs.State.{room}
use Rattle.threshold.proofs.Groups.{Searching}
use Rattle.threshold.proofs.queue.Queue.next_group.Given as goal

abbrev pub invariant-loop-top : goal.invariant-loop-top
invariant-loop-top g l =
    (room g.B.Bank.rows l.self ≤ room g.B.Bank.rows l.initial.self)
    × Searching l.minimum (g.C.ScoreCombiner.taken l.combiner) (g.C.ScoreCombiner.told l.combiner) (left g.B.Bank.rows l.initial.self.sets) (left g.B.Bank.rows l.self.sets) l.initial.self.chains l.self.chains

abbrev pub decreases-loop-top : goal.decreases-loop-top
decreases-loop-top g l = room g.B.Bank.rows l.self
