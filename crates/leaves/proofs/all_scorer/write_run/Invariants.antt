use Rattle.std.proofs.Common.{length}
use Rattle.leaves.proofs.Alls.{Written}
use Rattle.leaves.proofs.all_scorer.write_run.Given as goal

abbrev pub invariant-loop-place : goal.invariant-loop-place
invariant-loop-place l = Written l.first (length l.initial.buffer) l.place l.initial.buffer l.buffer
