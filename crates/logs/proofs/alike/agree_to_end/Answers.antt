use Rattle.std.proofs.Common.{rules}
use Rattle.logs.specs.Plain.{end_of}
use Rattle.logs.proofs.Steps.{end_not, end_counts}
use Rattle.logs.proofs.alike.agree_to_end.Goals as goal

pub returns-then-agree : goal.returns-then-agree
returns-then-agree g c = (
  g.P.DocSet.meaning c.agree.new.p,
  g.Q.DocSet.meaning c.agree.new.q,
  let h = end_counts _ _ _ _ _ (end_of c.args.last) c.if-agree.ensures c.count_at_end.result c.count_at_end-then-agree.result c.count_at_end.ensures c.count_at_end-then-agree.ensures in search (rules, h),
)

pub returns-else-agree : goal.returns-else-agree
returns-else-agree g c = (
  g.P.DocSet.meaning c.agree.new.p,
  g.Q.DocSet.meaning c.agree.new.q,
  rw c.if-agree.false (end_not _ _ _ _ _ (end_of c.args.last) c.if-agree.ensures),
)
