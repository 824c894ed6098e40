use Rattle.threshold.proofs.Chained.{popped_heap}
use Rattle.threshold.proofs.chains.Chains.drop_top.Goals as goal

pub invariant_of-self : goal.invariant_of-self
invariant_of-self c = popped_heap _ _ _ c.self.invariant (rw c.self.view_is c.requires) c.pop.auto.places c.pop.ensures.change
