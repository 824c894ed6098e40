use Rattle.std.proofs.Common.{T, sym, ap, ◌∙◌, subst}
use lib.Ieee.{binary32, of_bits}
use lib.Ieee.Bits.{of_bits-to_bits}
use Rattle.heap.proofs.hit.Hit.new.Goals as goal

pub returns : goal.returns
returns c = record {
  filled = λ k. record { bits = c.f32_to_bits_with_nan.ensures k; id = c.args.id };
  stands = ap (of_bits binary32) c.f32_to_bits_with_nan.ensures ∙ of_bits-to_bits binary32 c.args.score (subst T (sym c.well_formed.0.1) tt);
}
