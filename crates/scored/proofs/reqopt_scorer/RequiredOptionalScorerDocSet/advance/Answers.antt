use Rattle.std.proofs.Common.{rules}
use Rattle.scored.proofs.Optionals.{moved_opted}
use Rattle.scored.proofs.reqopt_scorer.RequiredOptionalScorerDocSet.advance.Goals as goal

pub returns-clause-moves : goal.returns-clause-moves
returns-clause-moves g c = search (moved_opted, rules)
