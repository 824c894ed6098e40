use Rattle.threshold.proofs.Chained.{replaced_heap}
use Rattle.threshold.proofs.chains.Chains.replace_top.Goals as goal

pub invariant_of-self : goal.invariant_of-self
invariant_of-self c = replaced_heap _ _ _ _ c.self.invariant (rw c.self.view_is c.requires.some) c.requires.an_id c.replace_top.auto.places c.replace_top.ensures.change
