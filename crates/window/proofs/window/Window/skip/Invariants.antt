use Rattle.std.proofs.Common.{◌≡◌, ◌*◌, min}
use Rattle.window.specs.Windows.{cells, Wiped}
use Rattle.window.proofs.Slots.{Behind}
use Rattle.window.proofs.window.Window.skip.Given as goal

abbrev pub invariant-loop-bucket : goal.invariant-loop-bucket
invariant-loop-bucket l =
    Behind l.self.words (l.bucket * 64)
    × (l.self.bucket ≡ l.initial.self.bucket)
    × Wiped (cells l.initial.self) (cells l.self) (min l.end l.bucket * 64)
