use Rattle.std.proofs.Common.{◌≡◌, [], drop, sym, ap, subst, arith, below_more, drop_of_length-le}
use Rattle.docset.specs.Meaning.{Known}
use Rattle.live.specs.Sets.{lowest_of}
use Rattle.live.specs.Views.{left}
use Rattle.live.proofs.Keeps.{lowest_le, lowest_step, steady_at, rising_all, length_kept}
use Rattle.live.proofs.live.Live.lowest.Goals as goal

pub loop-place-init : goal.loop-place-init
loop-place-init g c =
    let h = lowest_le (left g.B.Bank.rows c.args.self.now) in
    (omega arith, λ s. (omega arith, λ k lt. absurd (omega arith)))

pub loop-place-preserved : goal.loop-place-preserved
loop-place-preserved g c =
    let P = left g.B.Bank.rows c.args.self.now in
    let i = c.loop-place.place in
    let e = lowest_step P i in
    let t = c.doc_at.ensures.told in
    let m = c.min-low.ensures in (
      omega arith,
      λ s. let v = c.loop-place.invariant.1 s in let x = v.0 in let y = t.tells (steady_at P i s) in
          (omega arith, below_more _ _ v.1 (t.rises (subst Known (sym (steady_at P i s)) tt))),
    )

pub returns-clause-rises : goal.returns-clause-rises
returns-clause-rises g c =
    let n = length_kept c.args.self.now.live (g.B.Bank.rows c.args.self.now.bank).places in
    let m = c.args.self.now.count in
    λ s. rising_all _ (λ k lt. (c.loop-place.invariant.1 s).1 k (omega arith))

pub returns-clause-low : goal.returns-clause-low
returns-clause-low g c =
    let P = left g.B.Bank.rows c.args.self.now in
    let n = length_kept c.args.self.now.live (g.B.Bank.rows c.args.self.now.bank).places in
    let m = c.args.self.now.count in
    let e : drop c.loop-place.place P ≡ [] = drop_of_length-le P {i = c.loop-place.place} (omega arith) in
    λ s. let v = (c.loop-place.invariant.1 s).0 in omega (arith, ap lowest_of e)
