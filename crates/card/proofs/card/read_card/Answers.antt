use Rattle.std.proofs.Common.{◌<◌, length, vec_items, sym, ap, ◌∙◌, inl, inr, ⊎_elim, arith}
use Rattle.std.proofs.lemmas.List.{length-map}
use Rattle.std.proofs.lemmas.Bool.{eqb-true, eqb-false}
use Rattle.std.proofs.lemmas.Result.{err_from_is_err_and}
use Rattle.card.specs.Text.{lines}
use Rattle.card.specs.Statements.{meant, plain}
use Rattle.card.specs.Cards.{sketch, read_lines}
use Rattle.card.proofs.Sketches.{line_taken, line_refused, put_refused, stopped, ends_empty, ends_some}
use Rattle.card.proofs.card.read_card.Goals as goal

pub returns-in_err-statement : goal.returns-in_err-statement
returns-in_err-statement c =
    let p = err_from_is_err_and c.from_residual.result c.from_residual.ensures.1 in
    let split = c.in-Some.ensures in
    let more : c.loop-bytes.line < length (lines c.args.text.now) = omega (arith, c.loop-bytes.invariant.1, ap length split.0) in
    rw (p.1, p.2)
    (stopped c.args.text.now c.loop-bytes.line c.in_err-statement.field-0.0 more
    (⊎_elim inl
    (λ h.
    inr
    (c.loop-bytes.invariant.2 ∙ ap (read_lines c.loop-bytes.line (sketch c.loop-bytes.card)) split.0 ∙
    line_refused c.loop-bytes.line (sketch c.loop-bytes.card) c.in-Some.bytes.now (lines c.in-Some.rest.now)
    c.in_err-statement.field-0.0 h))
    c.in_err-statement.ensures))

pub returns-in_err-put : goal.returns-in_err-put
returns-in_err-put c =
    let p = err_from_is_err_and c.from_residual-in_err-put.result c.from_residual-in_err-put.ensures.1 in
    let split = c.in-Some.ensures in
    let more : c.loop-bytes.line < length (lines c.args.text.now) = omega (arith, c.loop-bytes.invariant.1, ap length split.0) in
    rw (p.1, p.2)
    (stopped c.args.text.now c.loop-bytes.line c.in_err-put.field-0.0 more
    (⊎_elim inl
    (λ h.
    inr
    (c.loop-bytes.invariant.2 ∙ ap (read_lines c.loop-bytes.line (sketch c.loop-bytes.card)) split.0 ∙
    put_refused c.loop-bytes.line (sketch c.loop-bytes.card) c.in-Some.bytes.now (lines c.in-Some.rest.now)
    (meant c.in_ok-statement.statement) c.in_err-put.field-0.0 c.in_ok-statement.ensures h))
    c.in_err-put.ensures))

pub loop-bytes-preserved : goal.loop-bytes-preserved
loop-bytes-preserved c =
    let split = c.in-Some.ensures in (
      omega (arith, c.loop-bytes.invariant.0, split.1),
      omega (arith, c.loop-bytes.invariant.1, ap length split.0),
      c.loop-bytes.invariant.2 ∙ ap (read_lines c.loop-bytes.line (sketch c.loop-bytes.card)) split.0 ∙
          line_taken c.loop-bytes.line (sketch c.loop-bytes.card) (sketch c.put.new.self) c.in-Some.bytes.now
          (lines c.in-Some.rest.now) (meant c.in_ok-statement.statement)
          c.in_ok-statement.ensures
          c.in_ok-put.ensures,
    )

pub returns-then-is_empty : goal.returns-then-is_empty
returns-then-is_empty c =
    inr
    (c.loop-bytes.invariant.2 ∙ ap (read_lines c.loop-bytes.line (sketch c.loop-bytes.card)) c.in_default.ensures ∙
    ends_empty c.loop-bytes.line (sketch c.loop-bytes.card)
    (length-map (vec_items c.loop-bytes.card.topics) plain ∙ sym c.loop-bytes.card.topics.ok.0 ∙
    eqb-true _ 0 (sym c.if-is_empty.ensures)))

pub returns : goal.returns
returns c =
    let some = eqb-false _ 0 (sym c.if-is_empty.ensures) in
    c.loop-bytes.invariant.2 ∙ ap (read_lines c.loop-bytes.line (sketch c.loop-bytes.card)) c.in_default.ensures ∙
    ends_some c.loop-bytes.line (sketch c.loop-bytes.card)
    (omega (arith, length-map (vec_items c.loop-bytes.card.topics) plain, c.loop-bytes.card.topics.ok.0, some))
