use Rattle.std.proofs.Common.{arith}
use Rattle.combiner.proofs.Bounded.{within_le}
use Rattle.combiner.proofs.size_hint.estimate_union.Goals as goal

pub returns-clause-bound : goal.returns-clause-bound
returns-clause-bound c =
    rw (c.saturating_f64_to_u32.ensures, c.estimated.ensures) (within_le c.args.max_docs (omega arith) _)
