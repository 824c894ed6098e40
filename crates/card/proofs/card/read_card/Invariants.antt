use Rattle.std.proofs.Common.{◌≡◌, ◌+◌, ◌≤◌, length}
use Rattle.card.specs.Text.{lines}
use Rattle.card.specs.Cards.{sketch, read_lines, card_of}
use Rattle.card.proofs.card.read_card.Given as goal

abbrev pub invariant-loop-bytes : goal.invariant-loop-bytes
invariant-loop-bytes l =
    (l.line + length l.left ≤ length l.text) × (length (lines l.text) ≡ l.line + length (lines l.left)) ×
    (card_of l.text ≡ read_lines l.line (sketch l.card) (lines l.left))

abbrev pub decreases-loop-bytes : goal.decreases-loop-bytes
decreases-loop-bytes l = length l.left
