use Rattle.std.proofs.Common.{◌<◌, ◌-◌, eqb, not, drop, length, subst, sym, refl, ap, ◌∙◌, rules, arith}
use Rattle.std.proofs.lemmas.List.{take_all, length-drop}
use Rattle.std.proofs.lemmas.Iterator.{YieldsList-from_slice}
use Rattle.std.proofs.lemmas.Iterator.Search.{position_from_yields_List}
use borrow.Author.Tests.{tests}
use Rattle.card.specs.Text.{before, fields, First}
use Rattle.card.proofs.Texts.{Started, found_start, field_here}
use Rattle.card.proofs.text.split_field.Goals as goal

pub returns-in_err-start : goal.returns-in_err-start
returns-in_err-start c =
    let found = position_from_yields_List (λ x. not (eqb x 32)) _ _ c.position.result c.position.ensures.ran (YieldsList-from_slice _ c.iter.ensures.rest) (λ x b q k. search (rules, tests)) in
    let none = subst (Started c.args.bytes.now) c.in_err-start.was (found_start c.args.bytes.now c.position.result found) in
    subst (First fields c.args.bytes.now) (sym c.from_residual.ensures) none

pub returns : goal.returns
returns c =
    let found = position_from_yields_List (λ x. not (eqb x 32)) _ _ c.position.result c.position.ensures.ran (YieldsList-from_slice _ c.iter.ensures.rest) (λ x b q k. search (rules, tests)) in
    let begun = subst (Started c.args.bytes.now) c.in_ok-start.was (found_start c.args.bytes.now c.position.result found) in
    let behind = length-drop c.in_ok-start.start c.args.bytes.now in
    let all = take_all (length c.args.bytes.now - c.in_ok-start.start) (drop c.in_ok-start.start c.args.bytes.now) (omega (arith, behind)) in
    let here =
    field_here _ c.split_once.result.0.now c.split_once.result.1 _ c.unwrap_or.result c.split_once.ensures.front
    c.split_once.ensures.back
    c.split_once.ensures.shorter
    (subst (λ l. 0 < length (before 32 l)) (sym all) begun.2)
    c.unwrap_or.ensures
    refl in (
      begun.0 ∙ ap fields (sym all) ∙ here.0,
      omega (arith, here.1, ap length all, behind),
    )
