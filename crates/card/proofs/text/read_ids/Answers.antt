use Rattle.std.proofs.Common.{◌≡◌, Some, vec_items, ap, ◌∙◌}
use Rattle.std.proofs.lemmas.Result.{IfOk-weaker}
use Rattle.std.specs.Option.{option_map}
use Rattle.card.specs.Text.{ids_of}
use Rattle.card.proofs.Trips.{read_back}
use Rattle.card.proofs.text.read_ids.Goals as goal

pub returns : goal.returns
returns c = record {
  value = c.numbers_of.ensures;
  back = λ ns fit e.
      IfOk-weaker c.numbers_of.result (λ o. option_map vec_items o ≡ ids_of c.args.bytes.now) (λ o. option_map vec_items o ≡ Some ns)
      (λ o h. h ∙ ap ids_of e ∙ read_back ns fit)
      c.numbers_of.ensures;
}
