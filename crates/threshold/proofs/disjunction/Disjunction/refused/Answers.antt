use Rattle.threshold.proofs.Built.{idle_ready, waiting_calm}
use Rattle.threshold.proofs.disjunction.Disjunction.refused.Goals as goal

pub returns-clause-empty : goal.returns-clause-empty
returns-clause-empty g c =
    let v = c.idle.ensures in
    rw v.unqueued (waiting_calm _ _ _ _ _ _ _ (idle_ready _ v.none))
