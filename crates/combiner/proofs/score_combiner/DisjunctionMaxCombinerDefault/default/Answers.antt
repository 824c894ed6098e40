use Rattle.combiner.specs.Scores.{zero_finite}
use Rattle.combiner.proofs.score_combiner.DisjunctionMaxCombinerDefault.default.Goals as goal

pub invariant_of-result : goal.invariant_of-result
invariant_of-result c = record { bounded = zero_finite }
