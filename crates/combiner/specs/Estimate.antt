-- The estimate of a union's size. Every operation is rounded once in f64.
use Rattle.std.specs.Prelude.{ℕ, cond, List, pos, fold, ◌==◌, from_bits, is_nan, Float}
use Rattle.std.specs.Float.Ieee.{of_int, mul, sub, div, lt, to_unsigned}
use Rattle.std.specs.Float.{float_round, binary64}

-- 0.0
abbrev pub zero : Float
zero = from_bits binary64 0

-- 1.0
abbrev pub one : Float
one = from_bits binary64 0x3ff0_0000_0000_0000

-- 0.8, rounded to f64: sets overlap more than chance has it, and so their union is smaller
abbrev pub factor : Float
factor = from_bits binary64 0x3fe9_9999_9999_999a

-- a u32 as f64, which is exact
abbrev pub whole : ℕ → Float
whole n = of_int binary64 (pos n)

-- p times 1 - (size / n) * 0.8
abbrev pub times : Float → Float → ℕ → Float
times n p size = mul binary64 p (sub binary64 one (mul binary64 (div binary64 (whole size) n) factor))

-- the product of these over the sizes, in order, from 1.0
abbrev pub product : Float → List ℕ → Float
product n sizes = fold (times n) one sizes

-- x if it lies between 0 and n, else the nearer end; n where x is not a number
abbrev pub within : Float → Float → Float
within n x = cond (is_nan x) n (cond (lt x zero) zero (cond (lt n x) n x))

-- n * (1 - p), rounded to a whole number, halves away from zero, and kept between 0 and n
abbrev pub estimate : Float → Float → Float
estimate n p = within n (float_round binary64 (mul binary64 n (sub binary64 one p)))

-- the estimate of the union of sets of these sizes, as a u32; of 0 documents it is 0
abbrev pub union_estimate : List ℕ → ℕ → ℕ
union_estimate sizes n = cond (n == 0) 0 (to_unsigned 32 (estimate (whole n) (product (whole n) sizes)))
