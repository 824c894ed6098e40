use Rattle.std.proofs.Common.{rules}
use Rattle.scored.proofs.Optionals.{probed_opted}
use Rattle.scored.proofs.reqopt_scorer.RequiredOptionalScorerDocSet.seek_danger.Goals as goal

pub returns-clause-moves : goal.returns-clause-moves
returns-clause-moves g c = search (probed_opted, rules)
