use Rattle.std.proofs.Common.{rules}
use Rattle.exclude.proofs.Excludes.{scored_over}
use Rattle.exclude.proofs.exclude.ExcludeScorer.score.Goals as goal

pub returns : goal.returns
returns g c = search (scored_over, rules)
