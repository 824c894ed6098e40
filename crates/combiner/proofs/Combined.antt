-- What the law of unread scores says of several.
use Rattle.std.proofs.Common.{◌≡◌, List, [], ◌∷◌, length, fold, refl, arith}
use lib.Ieee.{Float}
use Rattle.combiner.specs.declared.score_combiner.Tally.{Tally}

-- where no score changes what is taken, equally many scores lead to one tally
pub folded_alike : (f : Tally → Float → Tally) → ((t : Tally) (x y : Float) → f t x ≡ f t y) → (t : Tally) (xs ys : List Float) → length xs ≡ length ys → fold f t xs ≡ fold f t ys
folded_alike f same t [] [] e = refl
folded_alike f same t [] (y ∷ ys) e = absurd (omega arith)
folded_alike f same t (x ∷ xs) [] e = absurd (omega arith)
folded_alike f same t (x ∷ xs) (y ∷ ys) e =
    let n : length xs ≡ length ys = omega arith in
    rw (same t x y) (folded_alike f same (f t y) xs ys n)
