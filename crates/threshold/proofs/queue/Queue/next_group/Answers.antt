use Rattle.std.proofs.Common.{arith}
use Rattle.threshold.proofs.Groups.{searching_more, comes_found, comes_none}
use Rattle.threshold.proofs.queue.Queue.next_group.Goals as goal

pub returns-then-minimum-group-clause-comes : goal.returns-then-minimum-group-clause-comes
returns-then-minimum-group-clause-comes g c =
    comes_found _ _ _ _ _ _ _ _ _ _ _ _ c.loop-top.invariant.1 c.in-Some.ensures.an_id c.gather-group.ensures.gathered c.if-minimum-group.true _ c.tell-score.ensures

pub loop-top-preserved : goal.loop-top-preserved
loop-top-preserved g c =
    let i = c.loop-top.invariant in
    let w = c.gather-group.ensures in (
      (let a = i.0 in let b = w.pays in omega arith),
      searching_more _ _ _ _ _ _ _ _ _ _ _ _ i.1 c.in-Some.ensures.an_id w.gathered c.if-minimum-group.false,
    )

pub returns-clause-comes : goal.returns-clause-comes
returns-clause-comes g c = comes_none _ _ _ _ _ _ _ _ c.in_default.ensures c.loop-top.invariant.1
