use Rattle.window.specs.Windows.{cells}
use Rattle.window.proofs.Draining.{Draining}
use Rattle.window.proofs.window.Window.drain.Given as goal

abbrev pub invariant-loop-place : goal.invariant-loop-place
invariant-loop-place l = Draining (cells l.initial.self) (cells l.self) l.start l.filled l.initial.buffer l.buffer l.place
