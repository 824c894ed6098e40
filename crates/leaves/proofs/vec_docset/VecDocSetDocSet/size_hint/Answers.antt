use Rattle.std.proofs.Common.{arith}
use Rattle.leaves.proofs.Leaves.{slice_short}
use Rattle.leaves.proofs.vec_docset.VecDocSetDocSet.size_hint.Goals as goal

pub overflow_cast-result : goal.overflow_cast-result
overflow_cast-result c = omega (arith, slice_short _ c.args.self.now.small c.args.self.now.rises)
