use Rattle.std.proofs.Common.{rules}
use Rattle.scored.proofs.Optionals.{sought_opted}
use Rattle.scored.proofs.reqopt_scorer.RequiredOptionalScorerDocSet.seek.Goals as goal

pub returns-clause-moves : goal.returns-clause-moves
returns-clause-moves g c = search (sought_opted, rules)
