use Rattle.std.proofs.Common.{arith}
use Rattle.leaves.proofs.Leaves.{slice_short, slice_counted}
use Rattle.leaves.proofs.vec_docset.VecDocSetDocSet.count_including_deleted.Goals as goal

pub overflow_cast-result : goal.overflow_cast-result
overflow_cast-result c = omega (arith, slice_short _ c.args.self.small c.args.self.rises)

pub returns : goal.returns
returns c = slice_counted _ _
