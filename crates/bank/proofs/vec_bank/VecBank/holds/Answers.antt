use Rattle.std.proofs.Common.{set, rules, ◌∙◌, add-one, arith, length-set}
use Rattle.bank.proofs.Rows.{whole}
use Rattle.bank.proofs.Probing.{probing_starts, probing_more, probing_found, probing_ends}
use Rattle.bank.proofs.vec_bank.VecBank.holds.Goals as goal

pub loop-set-init : goal.loop-set-init
loop-set-init g c = rw c.deref_mut-set-items.ensures.value (probing_starts g.S.DocSet.meaning _ _)

pub returns-then-eq : goal.returns-then-eq
returns-then-eq g c =
    let v = c.args.self.now in
    let xs = set c.loop-set.set-items c.loop-set.set-index c.seek_danger.new.self in
    rw (whole xs v.items v.len (length-set _ _ _ ∙ c.loop-set.auto.set-items ∙ c.deref_mut-set-items.ensures.len))
    (probing_found g.S.DocSet.meaning g.S.DocSet.hint g.S.DocSet.price _ _ _ _ c.set-item.result _ _ c.loop-set.invariant (omega arith) (search rules) c.seek_danger.ensures)

pub loop-set-preserved : goal.loop-set-preserved
loop-set-preserved g c =
    rw add-one (probing_more g.S.DocSet.meaning _ _ _ _ c.set-item.result _ _ c.loop-set.invariant (omega arith) (search rules) c.seek_danger.ensures)

pub returns : goal.returns
returns g c =
    let v = c.args.self.now in
    rw (whole c.loop-set.set-items v.items v.len (c.loop-set.auto.set-items ∙ c.deref_mut-set-items.ensures.len))
    (probing_ends g.S.DocSet.meaning g.S.DocSet.hint g.S.DocSet.price _ _ _ _ c.loop-set.invariant (omega arith))
