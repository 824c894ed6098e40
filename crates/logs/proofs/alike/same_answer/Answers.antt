use Rattle.std.proofs.Common.{◌≡◌}
use Rattle.std.proofs.lemmas.Slice.Eq.{slice_eq-Decides}
use Rattle.logs.proofs.alike.same_answer.Goals as goal
use Rattle.std.proofs.lemmas.Bool.Decides.{Decides-eqb}

pub returns-then-n-k : goal.returns-then-n-k
returns-then-n-k c =
    let d = slice_eq-Decides Decides-eqb c.in-Written-Written.x c.in-Written-Written.y c.eq.result c.eq.ensures in
    let w = c.in-Written-Written in
    let a = w.is-0 in
    let b = w.is-1 in
    let n = c.if-n-k.true in (
      (λ h. let e = d.0 h in cc),
      (λ h. let e : w.x ≡ w.y = cc in d.1 e),
    )
