use Rattle.std.proofs.Common.{◌∙◌, arith}
use Rattle.live.specs.Kept.{kept}
use Rattle.live.proofs.Keeps.{sending_more, part_all, rising_all, length_kept}
use Rattle.live.proofs.live.Live.seek_all.Goals as goal

pub loop-place-preserved : goal.loop-place-preserved
loop-place-preserved g c = sending_more c.args.target c.loop-place.place g.B.Bank.rows _ _ _ c.loop-place.invariant c.send.ensures

pub returns : goal.returns
returns g c =
    let b = c.args.self.now in
    let P = kept b.live (g.B.Bank.rows b.bank).places in
    let n = length_kept b.live (g.B.Bank.rows b.bank).places in
    let m = b.count in
    let v = c.loop-place.invariant in
    record {
      rises = λ s. rising_all P (λ k l. v.rises s k (omega arith));
      becomes = λ s. v.becomes s ∙ part_all c.args.target c.loop-place.place P (omega arith);
      pays = v.pays;
    }
