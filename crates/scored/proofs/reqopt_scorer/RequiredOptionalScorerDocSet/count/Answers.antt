use Rattle.std.proofs.Common.{rules}
use Rattle.scored.proofs.Optionals.{counted_alive_opted}
use Rattle.scored.proofs.reqopt_scorer.RequiredOptionalScorerDocSet.count.Goals as goal

pub returns : goal.returns
returns g c = search (counted_alive_opted, rules)
