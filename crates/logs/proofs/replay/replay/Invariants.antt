use Rattle.std.proofs.Common.{◌≡◌, ◌≤◌, length, take, vec_items, vec_len, vec_capacity}
use Rattle.logs.specs.Plain.{ongoing}
use Rattle.logs.specs.Runs.{Runs}
use Rattle.logs.proofs.replay.replay.Given as goal

abbrev pub invariant-loop-call : goal.invariant-loop-call
invariant-loop-call g l =
    (vec_len l.answers ≡ l.call-index) × (length l.calls ≤ vec_capacity l.answers) ×
    Runs (g.S.DocSet.meaning l.initial.set) (take l.call-index l.calls) ongoing (vec_items l.answers) (g.S.DocSet.meaning l.set)
