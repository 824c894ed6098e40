use Rattle.std.proofs.Common.{sym, subst, refl, rules, arith}
use Rattle.threshold.proofs.Tops.{top_least}
use Rattle.threshold.proofs.Groups.{Gathering, gathering_start, gathering_more, gathered, none_at, other_top}
use Rattle.threshold.proofs.queue.Queue.gather.Goals as goal

pub loop-top-init : goal.loop-top-init
loop-top-init g c =
    let t = g.C.ScoreCombiner.taken c.args.combiner.now in
    (omega arith, λ _. refl, subst (Gathering t _ _ _ _ _ 0) (sym c.new-tally.ensures) (gathering_start t c.args.lowest _ _ (top_least _ _ _ c.requires)))

pub loop-top-preserved : goal.loop-top-preserved
loop-top-preserved g c =
    let i = c.loop-top.invariant in
    let w = c.take_top.ensures in
    let q = c.saturating_add-count.ensures in (
      (let a = i.0 in let b = w.pays in omega arith),
      (λ z. absurd (omega arith)),
      gathering_more _ _ c.in-Some.top _ _ _ _ _ _ _ _ _ _ c.requires.few c.if-top-lowest.true q i.2 (top_least _ _ _ c.in-Some.ensures) w.taken,
    )

pub returns-in-loop-top-clause-gathered : goal.returns-in-loop-top-clause-gathered
returns-in-loop-top-clause-gathered g c = gathered _ _ _ _ _ _ _ _ c.loop-top.invariant.2 (none_at _ _ _ c.requires.an_id (search rules))

pub returns-else-top-lowest-clause-gathered : goal.returns-else-top-lowest-clause-gathered
returns-else-top-lowest-clause-gathered g c =
    gathered _ _ _ _ _ _ _ _ c.loop-top.invariant.2 (other_top _ _ _ c.in-Some.top c.if-top-lowest.false (top_least _ _ _ c.in-Some.ensures))
