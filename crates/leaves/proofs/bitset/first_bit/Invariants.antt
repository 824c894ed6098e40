use Rattle.std.proofs.Common.{◌≡◌, ◌+◌, ◌*◌, ◌<◌}
use Rattle.leaves.specs.Bits.{bits_from}
use Rattle.leaves.proofs.bitset.first_bit.Given as goal

abbrev pub invariant-loop-place : goal.invariant-loop-place
invariant-loop-place l = (l.bit < 64) × (bits_from l.words l.from ≡ bits_from l.words (l.place * 64 + l.bit))
