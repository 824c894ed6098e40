use Rattle.exclude.proofs.Excludes.{moved_over}
use Rattle.exclude.proofs.exclude.ExcludeDocSet.advance.Goals as goal

pub returns : goal.returns
returns g c = moved_over _ _ _ _ _ _ _ c.advance-candidate.ensures c.next_kept.ensures
