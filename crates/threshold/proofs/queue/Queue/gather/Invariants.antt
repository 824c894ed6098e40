use Rattle.std.proofs.Common.{◌≡◌, ◌+◌, ◌≤◌, min}
use Rattle.live.specs.Views.{left}
use Rattle.threshold.specs.State.{room}
use Rattle.threshold.proofs.Groups.{Gathering}
use Rattle.threshold.proofs.queue.Queue.gather.Given as goal

abbrev pub invariant-loop-top : goal.invariant-loop-top
invariant-loop-top g l =
    (min 1 l.count + room g.B.Bank.rows l.self ≤ room g.B.Bank.rows l.initial.self)
    × (l.count ≡ 0 → l.self.chains ≡ l.initial.self.chains)
    × Gathering (g.C.ScoreCombiner.taken l.combiner) l.lowest.id (left g.B.Bank.rows l.initial.self.sets) (left g.B.Bank.rows l.self.sets) l.initial.self.chains l.self.chains l.count l.tally

abbrev pub decreases-loop-top : goal.decreases-loop-top
decreases-loop-top g l = room g.B.Bank.rows l.self
