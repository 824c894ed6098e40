use Rattle.std.proofs.Common.{◌+◌, ◌-◌, eqb, length, drop, Some, subst, ap, ◌∙◌, rules, arith}
use Rattle.std.proofs.lemmas.List.{take_all, length-drop}
use Rattle.std.proofs.lemmas.Iterator.{YieldsList-from_slice}
use Rattle.std.proofs.lemmas.Iterator.Search.{position_from_yields_List}
use borrow.Author.Tests.{tests}
use Rattle.card.proofs.Texts.{Parted, found_parts}
use Rattle.card.proofs.text.split_once.Goals as goal

pub returns-in-Some : goal.returns-in-Some
returns-in-Some c =
    let found = position_from_yields_List (λ x. eqb x c.args.byte) _ _ c.position.result c.position.ensures.ran (YieldsList-from_slice _ c.iter.ensures.rest) (λ x b q k. search (rules, tests)) in
    let parts = subst (Parted c.args.byte c.args.bytes.now) c.in-Some.is (found_parts c.args.byte c.args.bytes.now c.position.result found) in
    let behind = length-drop (c.in-Some.at + 1) c.args.bytes.now in
    let all = take_all (length c.args.bytes.now - (c.in-Some.at + 1)) (drop (c.in-Some.at + 1) c.args.bytes.now) (omega (arith, behind)) in
    record {
      front = parts.0;
      back = ap (λ l. Some l) all ∙ parts.1;
      shorter = omega (arith, ap length all, behind, parts.2);
    }

pub returns-in-None : goal.returns-in-None
returns-in-None c =
    let found = position_from_yields_List (λ x. eqb x c.args.byte) _ _ c.position.result c.position.ensures.ran (YieldsList-from_slice _ c.iter.ensures.rest) (λ x b q k. search (rules, tests)) in
    let parts = subst (Parted c.args.byte c.args.bytes.now) c.in-None.is (found_parts c.args.byte c.args.bytes.now c.position.result found) in
    record { front = parts.0; back = parts.1; shorter = tt }
