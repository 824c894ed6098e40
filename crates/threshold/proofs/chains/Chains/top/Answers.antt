use Rattle.threshold.proofs.Chained.{topped}
use Rattle.threshold.proofs.chains.Chains.top.Goals as goal

pub returns : goal.returns
returns c = rw (← c.self.view_is) (topped _ _ _ c.self.invariant c.peek.ensures)
