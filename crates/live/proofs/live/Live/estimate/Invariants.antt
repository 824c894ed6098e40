use Rattle.std.proofs.Common.{◌≡◌, ◌≤◌, ◌++◌, length}
use Rattle.live.specs.Views.{live_hints}
use Rattle.live.proofs.Numbers.{later}
use Rattle.live.proofs.live.Live.estimate.Given as goal

abbrev pub invariant-loop-place : goal.invariant-loop-place
invariant-loop-place g l =
    (length l.sizes.items ≤ l.place)
    × (l.sizes.items ++ later l.self.live (g.B.Bank.rows l.self.bank).hints l.place ≡ live_hints g.B.Bank.rows l.self)
