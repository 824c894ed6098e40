use Rattle.std.proofs.Common.{arith}
use Rattle.std.proofs.lemmas.List.Sorted.{length_permutation, sum_by_popped}
use Rattle.threshold.proofs.Chained.{sum_replaced}
use Rattle.threshold.proofs.Tops.{top_least}
use Rattle.threshold.proofs.Groups.{coming_none, coming_some, taken_by}
use Rattle.threshold.proofs.queue.Queue.take_top.Goals as goal

pub returns-then-id-eq-TERMINATED-clause-pays : goal.returns-then-id-eq-TERMINATED-clause-pays
returns-then-id-eq-TERMINATED-clause-pays g c =
    let l = length_permutation _ _ (c.drop_top.ensures c.args.top c.requires) in
    let a = c.wanted_score-score.ensures.pays in
    let b = c.advance_at-id.ensures.never_more in
    omega arith

pub returns-then-id-eq-TERMINATED-clause-taken : goal.returns-then-id-eq-TERMINATED-clause-taken
returns-then-id-eq-TERMINATED-clause-taken g c =
    let w = c.wanted_score-score.ensures in
    let v = c.advance_at-id.ensures in
    let p = c.drop_top.ensures c.args.top c.requires in
    taken_by _ c.args.top _ _ _ _ _ _ _ _ _ (top_least _ _ _ c.requires) w.same w.alike w.others v.steps v.others c.take.ensures
    (λ f. coming_none f _ _ _ _ _ c.if-id-eq-TERMINATED.true (sum_by_popped f _ _ _ p))

pub returns-else-id-eq-TERMINATED-clause-pays : goal.returns-else-id-eq-TERMINATED-clause-pays
returns-else-id-eq-TERMINATED-clause-pays g c =
    let l = length_permutation _ _ (c.replace_top.ensures c.args.top c.requires) in
    let v = c.advance_at-id.ensures in
    let a = c.wanted_score-score.ensures.pays in
    let b = v.falls (let i = v.steps.an_id in let n = c.if-id-eq-TERMINATED.false in omega (arith, n)) in
    omega arith

pub returns-else-id-eq-TERMINATED-clause-taken : goal.returns-else-id-eq-TERMINATED-clause-taken
returns-else-id-eq-TERMINATED-clause-taken g c =
    let w = c.wanted_score-score.ensures in
    let v = c.advance_at-id.ensures in
    let p = c.replace_top.ensures c.args.top c.requires in
    taken_by _ c.args.top _ _ _ _ _ _ _ _ _ (top_least _ _ _ c.requires) w.same w.alike w.others v.steps v.others c.take.ensures
    (λ f. coming_some f _ _ _ _ _ (let i = v.steps.an_id in let n = c.if-id-eq-TERMINATED.false in omega (arith, n)) (sum_replaced f _ _ _ _ p))
