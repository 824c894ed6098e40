-- When a union is refused.
use Rattle.std.specs.Prelude.{ℕ, cond, Some, None, Option, nat_lt}
use Rattle.docset.specs.declared.refusal.Refusal.{Refusal}
use Rattle.docset.specs.declared.refusal.Refusal.TheVariants.{TooManySets}

-- of n sets: more than 32 are refused
abbrev pub union_refusal : ℕ → Option Refusal
union_refusal n = cond (nat_lt 32 n) (Some TooManySets) None
