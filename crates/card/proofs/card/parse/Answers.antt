use Rattle.card.proofs.Bounds.{parses_limited}
use Rattle.card.proofs.card.parse.Goals as goal

pub returns : goal.returns
returns c = record {
  says = c.read_card.ensures;
  limits = parses_limited c.args.text.now c.read_card.result c.read_card.ensures;
}
