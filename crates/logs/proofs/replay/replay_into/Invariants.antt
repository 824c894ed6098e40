use Rattle.std.proofs.Common.{◌≡◌, length, take, drop}
use Rattle.logs.specs.Plain.{ongoing}
use Rattle.logs.specs.Runs.{Runs}
use Rattle.logs.proofs.replay.replay_into.Given as goal

abbrev pub invariant-loop-place : goal.invariant-loop-place
invariant-loop-place g l =
    record {
      whole : length l.answers ≡ length l.initial.answers;
      later : drop l.place l.answers ≡ drop l.place l.initial.answers;
      runs : Runs (g.S.DocSet.meaning l.initial.set) (take l.place (take l.made l.calls)) ongoing (take l.place l.answers) (g.S.DocSet.meaning l.set);
    }
