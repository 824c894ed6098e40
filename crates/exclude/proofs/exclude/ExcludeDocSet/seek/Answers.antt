use Rattle.exclude.proofs.Excludes.{sought_over}
use Rattle.exclude.proofs.exclude.ExcludeDocSet.seek.Goals as goal

pub returns-clause-sought : goal.returns-clause-sought
returns-clause-sought g c = sought_over _ _ _ _ _ _ _ _ c.seek-candidate.ensures c.next_kept.ensures
