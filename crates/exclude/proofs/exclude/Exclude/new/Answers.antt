use Rattle.exclude.proofs.Excludes.{born}
use Rattle.exclude.proofs.exclude.Exclude.new.Goals as goal

pub returns : goal.returns
returns g c = born _ _ _ _ _ _ c.doc-doc.ensures c.next_kept.ensures
