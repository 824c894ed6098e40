use Rattle.std.proofs.Common.{◌+◌, ◌≤◌, List, length, sym, subst, arith}
use Rattle.std.proofs.lemmas.List.Sorted.{length_permutation, sum_by_pushed}
use Rattle.heap.specs.declared.order.Entry.{Entry}
use Rattle.live.specs.Views.{left}
use Rattle.threshold.proofs.Groups.{Loading, loading_ended, loading_more}
use Rattle.live.proofs.Keeps.{alike_places}
use Rattle.threshold.proofs.Built.{all_loaded}
use Rattle.threshold.proofs.queue.Queue.new.Goals.{then-id-ne-TERMINATED, else-id-ne-TERMINATED}
use Rattle.threshold.proofs.queue.Queue.new.Goals as goal

pub loop-place-preserved : goal.loop-place-preserved
loop-place-preserved g c =
    let i = c.loop-place.invariant in
    let P = left g.B.Bank.rows c.new-sets.result in
    let k = c.loop-place.place in
    let t = c.doc_at-id.ensures.told in
    let I : List Entry → Type 0 = λ E. (length E ≤ k + 1) × Loading P E (k + 1) in
    elim c.if-id-ne-TERMINATED.branch [
      | then-id-ne-TERMINATED w ↦
          let p = w.push.ensures in
          let l = length_permutation _ _ p in
          subst I (sym w.chains-is) (
            (let a = i.0 in omega arith),
            loading_more P _ _ k _ t (let a = t.an_id in let b = w.if-id-ne-TERMINATED.true in omega (arith, b)) (λ f. sum_by_pushed f _ _ _ p) i.1,
          )
      | else-id-ne-TERMINATED w ↦
          subst I (sym w.chains-is) ((let a = i.0 in omega arith), loading_ended P _ k _ t w.if-id-ne-TERMINATED.false i.1)
    ]

pub returns-clause-alike : goal.returns-clause-alike
returns-clause-alike g c =
    λ s. alike_places g.B.Bank.rows c.args.bank c.new-sets.result (omega (arith, c.requires.all, c.requires.few)) (c.new-sets.ensures.apt s)

pub returns-clause-ready : goal.returns-clause-ready
returns-clause-ready g c =
    λ s. all_loaded _ _ _ c.args.count _ (alike_places g.B.Bank.rows c.args.bank c.new-sets.result (omega (arith, c.requires.all, c.requires.few)) (c.new-sets.ensures.apt s)) s c.requires.all c.loop-place-test.false c.loop-place.invariant.1
