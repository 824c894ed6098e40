use Rattle.std.proofs.Common.{rules}
use Rattle.placement.proofs.Blocks.{leaf_whole}
use Rattle.placement.proofs.lesson.leaf_ids.Goals as goal

pub returns : goal.returns
returns c = search (leaf_whole, rules)
