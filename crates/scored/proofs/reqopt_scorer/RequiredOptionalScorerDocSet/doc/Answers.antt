use Rattle.std.proofs.Common.{rules}
use Rattle.scored.proofs.Optionals.{told_opted}
use Rattle.scored.proofs.reqopt_scorer.RequiredOptionalScorerDocSet.doc.Goals as goal

pub returns : goal.returns
returns g c = search (told_opted, rules)
