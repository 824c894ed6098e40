-- Leaves over words of bits: what is refused, and what is listed.
use Rattle.std.specs.Prelude.{ℕ, ◌+◌, ◌*◌, ◌/◌, ◌%◌, ◌^◌, ◌≤◌, Bool, true, cond, List, length, Some, Option, ◌==◌, count_ones, nat_lt, slice_get, sum_by}
use Rattle.std.specs.Option.{option_map}
use Rattle.docset.specs.declared.refusal.Refusal.{Refusal}
use Rattle.docset.specs.declared.refusal.Refusal.TheVariants.{SegmentTooLarge, WrongWordCount, BitPastEnd}
use Rattle.docset.specs.Meaning.{TERM}
use Rattle.docset.specs.Bits.{bit_set}
use Rattle.leaves.specs.Ranges.{between}

-- words with no more than 2 ^ 31 bits, so that 32 bits tell where one stands
abbrev pub Few : List ℕ → Type 0
Few ws = length ws ≤ 33554432

-- whether bit k, lowest first, of the word is set
abbrev pub bit_of : ℕ → ℕ → Bool
bit_of w k = w / 2 ^ k % 2 == 1

-- the ids from lo on whose bit is set
abbrev pub bits_from : List ℕ → ℕ → List ℕ
bits_from ws lo = between (bit_set ws) lo (64 * length ws)

-- how many words hold a bit for each document below max
abbrev pub words_for : ℕ → ℕ
words_for max = (max + 63) / 64

abbrev pub past_end : List ℕ → Option Refusal
past_end xs = option_map (λ _. BitPastEnd) (slice_get xs 0)

-- why words are refused for a segment of max documents, if they are: its size, then their number, then a bit at or past max
abbrev pub bits_refusal : List ℕ → ℕ → Option Refusal
bits_refusal ws max =
    cond (nat_lt TERM max) (Some SegmentTooLarge) (cond (length ws == words_for max) (past_end (bits_from ws max)) (Some WrongWordCount))

-- the number of ones in all words
abbrev pub ones_in : List ℕ → ℕ
ones_in = sum_by count_ones

-- a leaf stands on a set bit, or at TERM
abbrev pub stands : List ℕ → ℕ → Bool
stands ws doc = cond (doc == TERM) true (bit_set ws doc)
