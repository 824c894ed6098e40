use Rattle.std.proofs.Common.{◌≡◌, length, vec_items}
use Rattle.card.specs.Text.{fields, numbers, ids_of}
use Rattle.card.proofs.Texts.{onto}
use Rattle.card.proofs.text.numbers_of.Given as goal

abbrev pub invariant-loop-field : goal.invariant-loop-field
invariant-loop-field l = ids_of l.bytes ≡ onto (vec_items l.ids) (numbers (fields l.left))

abbrev pub decreases-loop-field : goal.decreases-loop-field
decreases-loop-field l = length l.left
