-- Scores that are tested to be the same are equal.
use Rattle.std.proofs.Common.{◌≡◌, ℕ, Bool, true, false, ◌&&◌, eqb, ℤ, sym, refl, ap, ◌∙◌}
use lib.Ieee.{Float, nan, inf, fin}
use Rattle.std.specs.Ordering.{int_eq}
use Rattle.std.specs.Cmp.{booleans_Decides}
use Rattle.std.specs.Bool.{beq}
use Rattle.std.proofs.Math.Bool.{true≢false}
use Rattle.std.proofs.lemmas.Bool.{eq-eqb, eqb-true, and_parts, and_from}
use Rattle.std.proofs.lemmas.Bool.Decides.{Decides-int_eq}
use Rattle.scored.specs.Optional.{same_float}

never : {X : Type 0} → false ≡ true → X
never e = absurd (true≢false (sym e))

pub float_refl : (x : Float) → same_float x x ≡ true
float_refl nan = refl
float_refl (inf b) = (booleans_Decides b b).1 refl
float_refl (fin s m e) =
    and_from _ _ ((booleans_Decides s s).1 refl) (and_from _ _ (eq-eqb m m refl) ((Decides-int_eq e e).1 refl))

pub float_same : (x y : Float) → same_float x y ≡ true → x ≡ y
float_same nan nan h = refl
float_same nan (inf b) h = never h
float_same nan (fin s m e) h = never h
float_same (inf a) nan h = never h
float_same (inf a) (inf b) h = ap inf ((booleans_Decides a b).0 h)
float_same (inf a) (fin s m e) h = never h
float_same (fin s m e) nan h = never h
float_same (fin s m e) (inf b) h = never h
float_same (fin s m e) (fin t n f) h =
    let a = and_parts (beq s t) (eqb m n && int_eq e f) h in
    let b = and_parts (eqb m n) (int_eq e f) a.1 in
    ap (λ (x : Bool). fin x m e) ((booleans_Decides s t).0 a.0) ∙ ap (λ (x : ℕ). fin t x e) (eqb-true m n b.0) ∙
    ap (λ (x : ℤ). fin t n x) ((Decides-int_eq e f).0 b.1)
