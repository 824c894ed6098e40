use Rattle.std.proofs.Common.{◌≡◌, ℕ, ◌<◌, ◌≤◌, min, drop}
use Rattle.docset.specs.Meaning.{Rising}
use Rattle.bank.specs.Places.{at}
use Rattle.live.specs.Sets.{AllSteady, lowest_of}
use Rattle.live.specs.Views.{left}
use Rattle.live.proofs.live.Live.lowest.Given as goal

abbrev pub invariant-loop-place : goal.invariant-loop-place
invariant-loop-place g l =
    (l.low ≤ 2147483647)
    × (AllSteady (left g.B.Bank.rows l.self) →
    (min l.low (lowest_of (drop l.place (left g.B.Bank.rows l.self))) ≡ lowest_of (left g.B.Bank.rows l.self))
    × ((k : ℕ) → k < l.place → Rising 0 (at (left g.B.Bank.rows l.self) k).pairs))
