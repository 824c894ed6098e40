use Rattle.std.proofs.Common.{arith}
use Rattle.live.specs.Views.{left}
use Rattle.live.proofs.Keeps.{length_kept}
use Rattle.refill.proofs.Pours.{filling_none, filling_more, filling_all}
use Rattle.refill.specs.Refills.{reach}
use Rattle.refill.proofs.refill.refill.Goals as goal

pub loop-place-init : goal.loop-place-init
loop-place-init g c = (
  filling_none _ c.args.start (reach c.args.start) (left g.B.Bank.rows c.args.sets.now) _,
  omega arith,
)

pub loop-place-preserved : goal.loop-place-preserved
loop-place-preserved g c =
    let v = c.loop-place.invariant in
    let r = c.pour.ensures in
    let p = r.pays in
    let q = v.1 in (
      filling_more _ c.args.start (reach c.args.start) c.loop-place.place (left g.B.Bank.rows c.args.sets.now) _ _ _ _ _ v.0 r.poured r.others,
      omega arith,
    )

pub returns : goal.returns
returns g c =
    let v = c.loop-place.invariant in
    let n = length_kept c.args.sets.now.live (g.B.Bank.rows c.args.sets.now.bank).places in
    let m = c.args.sets.now.count in
    record { filled = filling_all _ c.args.start (reach c.args.start) c.loop-place.place _ _ _ _ (omega arith) v.0; pays = v.1 }
