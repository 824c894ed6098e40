use Rattle.std.proofs.Common.{◌≡◌, ◌+◌, ◌≤◌, min}
use Rattle.live.specs.Kept.{sum_of, capped_sum}
use Rattle.live.specs.Views.{live_prices}
use Rattle.live.proofs.Numbers.{later}
use Rattle.live.proofs.live.Live.total_cost.Given as goal

abbrev pub invariant-loop-place : goal.invariant-loop-place
invariant-loop-place g l =
    (l.total ≤ 18446744073709551615)
    × (min (l.total + sum_of (later l.self.live (g.B.Bank.rows l.self.bank).prices l.place)) 18446744073709551615
    ≡ capped_sum (live_prices g.B.Bank.rows l.self))
