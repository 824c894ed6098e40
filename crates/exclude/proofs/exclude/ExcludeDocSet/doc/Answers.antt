use Rattle.std.proofs.Common.{rules}
use Rattle.exclude.proofs.Excludes.{told_over}
use Rattle.exclude.proofs.exclude.ExcludeDocSet.doc.Goals as goal

pub returns : goal.returns
returns g c = search (told_over, rules)
