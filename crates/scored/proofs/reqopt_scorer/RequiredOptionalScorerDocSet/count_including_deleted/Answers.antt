use Rattle.std.proofs.Common.{rules}
use Rattle.scored.proofs.Optionals.{counted_opted}
use Rattle.scored.proofs.reqopt_scorer.RequiredOptionalScorerDocSet.count_including_deleted.Goals as goal

pub returns : goal.returns
returns g c = search (counted_opted, rules)
