use Rattle.std.proofs.Common.{sym, refl, arith}
use Rattle.std.proofs.lemmas.Bool.{eqb-false}
use Rattle.card.proofs.Texts.{line_here}
use Rattle.card.proofs.text.split_line.Goals as goal

pub returns : goal.returns
returns c =
    let some = eqb-false _ 0 (sym c.if-is_empty.ensures) in
    line_here c.args.bytes.now c.split_once.result.0.now c.split_once.result.1 _ c.unwrap_or.result c.split_once.ensures.front
    c.split_once.ensures.back
    c.split_once.ensures.shorter
    (omega (arith, some))
    c.unwrap_or.ensures
    refl
