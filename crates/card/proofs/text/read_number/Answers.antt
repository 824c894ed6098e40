use Rattle.std.proofs.Common.{sym, rules, arith}
use Rattle.std.proofs.lemmas.Bool.{eqb-false}
use Rattle.std.proofs.lemmas.Iterator.{YieldsList-from_slice}
use borrow.Author.Tests.{tests}
use Rattle.card.proofs.Folds.{number_from_yields_List}
use Rattle.card.proofs.text.read_number.Goals as goal

pub returns : goal.returns
returns c =
    let some = eqb-false _ 0 (sym c.if-is_empty.ensures) in
    number_from_yields_List _ _ c.try_fold.result c.try_fold.ensures.ran (YieldsList-from_slice _ c.iter.ensures.rest) (omega (arith, some))
    (λ a x b q k. search (rules, tests))
