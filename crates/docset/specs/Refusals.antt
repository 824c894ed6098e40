-- What a refusal tells: its number, and the place of the id at fault.
use Rattle.std.specs.Prelude.{ℕ, List, ◌++◌, Some, None, codes, decimal, Option}
use Rattle.docset.specs.declared.refusal.Refusal.{Refusal}
use Rattle.docset.specs.declared.refusal.Refusal.TheVariants.{NotRising, TooLarge, SegmentTooLarge, WrongWordCount, BitPastEnd, TooManySets, MinimumZero, NotFinite}

abbrev pub number_of : Refusal → ℕ
number_of (NotRising place) = 1
number_of (TooLarge place) = 2
number_of SegmentTooLarge = 3
number_of WrongWordCount = 4
number_of BitPastEnd = 5
number_of TooManySets = 6
number_of MinimumZero = 7
number_of NotFinite = 8

-- counted from 0; only the two refusals of a list of ids have one
abbrev pub place_of : Refusal → Option ℕ
place_of (NotRising place) = Some place
place_of (TooLarge place) = Some place
place_of SegmentTooLarge = None
place_of WrongWordCount = None
place_of BitPastEnd = None
place_of TooManySets = None
place_of MinimumZero = None
place_of NotFinite = None

-- the text of a refusal, as bytes
abbrev pub words_of : Refusal → List ℕ
words_of (NotRising place) = codes "the id at place " ++ (decimal place ++ codes " is not above the one before it")
words_of (TooLarge place) = codes "the id at place " ++ (decimal place ++ codes " is larger than 2147483646")
words_of SegmentTooLarge = codes "a segment has at most 2147483647 documents"
words_of WrongWordCount = codes "the number of words does not fit the number of documents"
words_of BitPastEnd = codes "a bit is set for a document past the end"
words_of TooManySets = codes "more than 32 sets"
words_of MinimumZero = codes "a minimum of 0 sets"
words_of NotFinite = codes "a factor that is not finite"
