use Rattle.threshold.proofs.Chained.{pushed_heap}
use Rattle.threshold.proofs.chains.Chains.push.Goals as goal

pub invariant_of-self : goal.invariant_of-self
invariant_of-self c = pushed_heap _ _ _ _ _ c.self.invariant (rw c.self.view_is c.requires.room) c.requires.an_id c.push.auto.places c.push.ensures
