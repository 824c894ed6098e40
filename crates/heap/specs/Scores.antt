use Rattle.std.specs.Prelude.{ℕ, ◌+◌, ◌-◌, ◌%◌, Bool, cond, from_bits, is_nan, nat_lt, Float}
use Rattle.std.specs.Float.{binary32, total_cmp}
use Rattle.std.specs.declared.cmp.Ordering.{Ordering}
use Rattle.std.specs.declared.cmp.Ordering.TheVariants.{Less, Equal, Greater}
use Rattle.std.specs.Ordering.{is_le, nat_cmp, ordering_then, ordering_reverse}
use Rattle.heap.specs.declared.hit.Hit.{Hit}

-- How the score x stands to the score y: by IEEE 754's totalOrder. Every NaN is the quiet one with a clear sign, which is above each number.
abbrev pub standing : Float → Float → Ordering
standing x y = cond (is_nan x) (cond (is_nan y) Equal Greater) (cond (is_nan y) Less (total_cmp x y))

-- How a hit with the id i compares to one with the id j, by how its score stands to the other's: the higher score first, then the lower id.
abbrev pub ranking : Ordering → ℕ → ℕ → Ordering
ranking o i j = ordering_then (ordering_reverse o) (nat_cmp i j)

-- It ranks at or before the other.
abbrev pub ranked : Ordering → ℕ → ℕ → Bool
ranked o i j = is_le (ranking o i j)

-- How a hit compares to another.
abbrev pub hit_cmp : Hit → Hit → Ordering
hit_cmp a b = ranking (standing (from_bits binary32 a.bits) (from_bits binary32 b.bits)) a.id b.id

-- How far below the pattern 0x7FFFFFFF the pattern b stands in totalOrder, a NaN as 0x7FC00000: sizes with a clear sign fall from there to zero, then those with a set sign rise from zero.
abbrev pub depth : ℕ → ℕ
depth b = cond (nat_lt 0x7F800000 (b % 0x80000000)) (0x7FFFFFFF - 0x7FC00000) (cond (nat_lt b 0x80000000) (0x7FFFFFFF - b % 0x80000000) (0x80000000 + b % 0x80000000))
