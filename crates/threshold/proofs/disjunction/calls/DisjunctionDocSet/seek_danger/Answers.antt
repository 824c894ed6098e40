use Rattle.threshold.proofs.States.{probed_over}
use Rattle.threshold.proofs.disjunction.calls.DisjunctionDocSet.seek_danger.Goals as goal

pub returns : goal.returns
returns g c = probed_over _ _ _ _ _ _ _ _ _ _ _ c.probe_by_seek.ensures.probes
