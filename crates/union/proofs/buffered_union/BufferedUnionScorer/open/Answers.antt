use Rattle.std.proofs.Common.{◌<◌, refl, ◌∙◌, arith}
use Rattle.live.proofs.Thresholds.{total_kept}
use Rattle.refill.proofs.Moves.{opened_some}
use Rattle.refill.proofs.Reaches.{anew_some}
use Rattle.union.specs.Reading.{left_of}
use Rattle.union.proofs.Ghosts.{fields_next, fields_none, skipped_all, next_low, opened_nothing}
use Rattle.union.proofs.buffered_union.BufferedUnionScorer.open.Goals as goal

pub invariant_of-self : goal.invariant_of-self
invariant_of-self g c =
    let z = skipped_all _ _ c.skip.ensures.wiped c.skip.ensures.past in
    fields_next c.lowest-low.result c.in-Some.delta c.refill.new.window c.next.new.self c.in-Some.tally (λ k l. c.refill.ensures.filled.outside k (omega arith) ∙ z k) c.in-Some.ensures

pub invariant_of-self-in-None : goal.invariant_of-self-in-None
invariant_of-self-in-None g c =
    let n = c.in-None.ensures in
    fields_none c.lowest-low.result 2147483647 c.next.new.self (omega arith) c.lowest-low.ensures.an_id (λ l. absurd (omega arith)) (λ k. n.same k ∙ n.all k)

pub returns-in-Some : goal.returns-in-Some
returns-in-Some g c =
    let P = left_of g.B.Bank.rows c.args.self.now in
    let l = c.lowest-low.ensures in
    let z = skipped_all _ _ c.skip.ensures.wiped c.skip.ensures.past in
    let v = c.refill.ensures in
    let n = c.in-Some.ensures in
    let low : c.lowest-low.result < 2147483647 = next_low c.lowest-low.result _ _ _ _ _ _ _ _ z v.filled n in
    rw c.tell-self.ensures
    (record {
      stands = refl;
      docs = refl;
      anew = anew_some _ P _ _ _ _ c.lowest-low.result c.in-Some.delta c.in-Some.tally l.rises l.low low z v.filled n;
      opened = opened_some _ _ P _ _ _ _ c.lowest-low.result c.in-Some.delta c.in-Some.tally _ _ l.rises l.low low z v.filled n v.pays
          (total_kept c.refill.new.sets.live (g.B.Bank.rows c.refill.new.sets.bank).places);
    })

pub returns-in-None : goal.returns-in-None
returns-in-None g c =
    let l = c.lowest-low.ensures in
    let z = skipped_all _ _ c.skip.ensures.wiped c.skip.ensures.past in
    let v = c.refill.ensures in
    let o = opened_nothing _ _ (left_of g.B.Bank.rows c.args.self.now) _ _ _ _ c.lowest-low.result _ _ _ l.an_id l.rises l.low z v.filled c.in-None.ensures v.pays
    (total_kept c.refill.new.sets.live (g.B.Bank.rows c.refill.new.sets.bank).places) in
    record { stands = refl; docs = refl; anew = o.1; opened = o.0 }
