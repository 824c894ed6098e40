use lib.Ieee.{Float, binary32, to_bits, of_bits, fits}
use lib.Ieee.Bits.{of_bits-to_bits, is_true}
use Rattle.std.proofs.Common.{◌≡◌, T, sym, ap, ◌∙◌, eqb→eq}
use lib.Dec.{eqb_refl}
use Rattle.logs.proofs.alike.same_score.Goals as goal

-- a float of 32 bits is known by its bits
by_bits : (a b : Float) → T (fits binary32 a) → T (fits binary32 b) → to_bits binary32 a ≡ to_bits binary32 b → a ≡ b
by_bits a b h k e = sym (of_bits-to_bits binary32 a h) ∙ ap (of_bits binary32) e ∙ of_bits-to_bits binary32 b k

pub returns : goal.returns
returns c =
    let x = c.f32_to_bits_with_nan in
    let y = c.f32_to_bits_with_nan-2 in (
      (λ t. by_bits c.args.a c.args.b (rw c.well_formed.0.1 tt) (rw c.well_formed.1.0.1 tt) (sym x.ensures ∙ eqb→eq _ _ (rw t tt) ∙ y.ensures)),
      (λ e. let f : x.result ≡ y.result = x.ensures ∙ ap (to_bits binary32) e ∙ sym y.ensures in rw f (is_true _ (eqb_refl _))),
    )
