-- Tallies, and what each combiner makes of scores. Every operation is rounded once in f32.
use Rattle.std.specs.Prelude.{Bool, cond, T, List, Some, None, fold, Option, Float}
use Rattle.std.specs.Float.{binary32, float_is_finite}
use Rattle.std.specs.Float.Ieee.{of_bits, add, sub, mul, lt, eq}
use Rattle.docset.specs.declared.refusal.Refusal.{Refusal}
use Rattle.docset.specs.declared.refusal.Refusal.TheVariants.{NotFinite}
use Rattle.combiner.specs.declared.score_combiner.Tally.{Tally}

-- 0.0
abbrev pub zero : Float
zero = of_bits binary32 0

-- 1.0
abbrev pub one : Float
one = of_bits binary32 0x3f80_0000

abbrev pub minus_infinity : Float
minus_infinity = of_bits binary32 0xff80_0000

-- ---- tallies

-- the tally of no score
abbrev pub start : Tally
start = record { max = minus_infinity; sum = zero }

-- the combined score of some scores: what is told once they are taken in order, from the start
abbrev pub combined : (Tally → Float → Tally) → (Tally → Float) → List Float → Float
combined taken told xs = told (fold taken start xs)

-- ---- SumCombiner

-- the score is added
abbrev pub summed : Tally → Float → Tally
summed t x = record { max = t.max; sum = add binary32 t.sum x }

-- ---- DisjunctionMaxCombiner

-- x, but 0.0 where x equals it, so that -0.0 is 0.0 too
abbrev pub unsigned : Float → Float
unsigned x = cond (eq x zero) zero x

-- The score is added, and is the new max if it is greater. A -0.0 goes into both as 0.0.
abbrev pub maxed : Tally → Float → Tally
maxed t x = record { max = cond (lt t.max (unsigned x)) (unsigned x) t.max; sum = add binary32 t.sum (unsigned x) }

-- max + (sum - max) * tie-breaker, or the sum while max is minus infinity
abbrev pub broken : Float → Tally → Float
broken b t = cond (eq t.max minus_infinity) t.sum (add binary32 t.max (mul binary32 (sub binary32 t.sum t.max) b))

-- ---- factors

-- neither an infinity nor not a number
abbrev pub finite : Float → Bool
finite = float_is_finite

-- 0.0 is finite
pub zero_finite : T (finite zero)
unfolding of_bits float_is_finite
zero_finite = tt

-- the refusal of a factor: of every one that is not finite, and of no other
abbrev pub refusal_of : Float → Option Refusal
refusal_of b = cond (finite b) None (Some NotFinite)

-- the tie-breaker that a combiner has which was given b: b itself, or 0.0 where b is refused
abbrev pub tie_breaker_of : Float → Float
tie_breaker_of b = cond (finite b) b zero
