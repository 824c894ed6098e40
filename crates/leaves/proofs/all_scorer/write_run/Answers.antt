use Rattle.std.proofs.Common.{add-one, arith, subst, length, ◌≡◌}
use Rattle.leaves.proofs.Alls.{Written, written_none, written_more, written_all}
use Rattle.leaves.proofs.all_scorer.write_run.Goals as goal

pub loop-place-init : goal.loop-place-init
loop-place-init c = written_none _ _ _

pub loop-place-preserved : goal.loop-place-preserved
loop-place-preserved c = rw add-one (written_more _ _ _ _ _ (omega arith) (omega arith) c.loop-place.invariant)

pub returns : goal.returns
returns c =
    let e : c.loop-place.place ≡ length c.args.buffer.now = omega arith in
    written_all _ _ _ (subst (λ i. Written c.args.first (length c.args.buffer.now) i c.args.buffer.now c.loop-place.buffer) e c.loop-place.invariant)
