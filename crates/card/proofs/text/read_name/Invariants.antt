use Rattle.std.proofs.Common.{◌≡◌, drop, string_bytes}
use Rattle.card.specs.Text.{name}
use Rattle.card.proofs.Texts.{name_on}
use Rattle.card.proofs.text.read_name.Given as goal

abbrev pub invariant-loop-byte : goal.invariant-loop-byte
invariant-loop-byte l = name l.bytes ≡ name_on (string_bytes l.name) (drop l.byte-index l.bytes)
