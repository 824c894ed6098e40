use Rattle.std.proofs.Common.{arith}
use Rattle.threshold.proofs.Built.{built_waiting, built_standing, built_reads}
use Rattle.threshold.proofs.disjunction.Disjunction.new.Goals.{then-count-minimum, else-count-minimum}
use Rattle.threshold.proofs.disjunction.Disjunction.new.Goals as goal

pub returns-clause-list : goal.returns-clause-list
returns-clause-list g c =
    let q = c.new-queue.ensures in
    λ _ s. elim c.if-count-minimum.branch [
      | then-count-minimum w ↦
          rw (w.queue-is, w.stand-is) (built_waiting c.args.minimum _ _ _ (g.B.Bank.rows c.args.bank).places _ _ _ (q.alike s) (q.ready s) (let a = q.at_most in let b = w.if-count-minimum.true in omega arith))
      | else-count-minimum w ↦
          rw (w.queue-is, w.stand-is) (built_standing _ _ _ (g.B.Bank.rows c.args.bank).places _ _ _ _ _ _ _ (q.alike s) (q.ready s) w.next_group.ensures.comes)
    ]

pub returns-clause-reads : goal.returns-clause-reads
returns-clause-reads g c =
    let q = c.new-queue.ensures in
    λ _ s k _. elim c.if-count-minimum.branch [
      | then-count-minimum w ↦ rw (w.queue-is, w.stand-is) (q.alike s k)
      | else-count-minimum w ↦
          rw (w.queue-is, w.stand-is) (built_reads _ _ _ (g.B.Bank.rows c.args.bank).places _ _ _ _ _ _ (q.alike s) (q.ready s) w.next_group.ensures.comes k)
    ]
