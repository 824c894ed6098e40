use Rattle.std.proofs.Common.{rules}
use Rattle.exclude.proofs.Excludes.{probed_past, probed_by_seek}
use Rattle.exclude.proofs.exclude.ExcludeDocSet.seek_danger.Goals as goal

pub returns-then-target-ge-TERMINATED-clause-probed : goal.returns-then-target-ge-TERMINATED-clause-probed
returns-then-target-ge-TERMINATED-clause-probed g c = search (probed_past, rules)

pub returns-clause-probed : goal.returns-clause-probed
returns-clause-probed g c = search (probed_by_seek, rules)
