use Rattle.std.proofs.Common.{sym, ap, ◌∙◌, rules}
use Rattle.std.specs.Ordering.{nat_cmp, ordering_then}
use Rattle.heap.proofs.Totals.{standing_depth}
use Rattle.heap.proofs.hit.HitOrd.cmp.Goals as goal

pub returns : goal.returns
returns c =
    let a = c.args.self.now in
    let b = c.args.other.now in
    search rules ∙ ap (λ o. ordering_then o (nat_cmp a.id b.id)) (sym (standing_depth a.bits b.bits))
