use Rattle.std.proofs.Common.{rules}
use Rattle.scored.proofs.Optionals.{filled_opted}
use Rattle.scored.proofs.reqopt_scorer.RequiredOptionalScorerDocSet.fill_buffer.Goals as goal

pub returns-clause-moves : goal.returns-clause-moves
returns-clause-moves g c = search (filled_opted, rules)
