-- Leaves over a range of numbers: all of them, or those whose bit is set.
use Rattle.std.specs.Prelude.{ℕ, zero, suc, ◌-◌, Bool, true, cond, List, [], ◌∷◌}

-- of the n numbers from lo on, those that pass the test, in order
unfoldable pub those : (ℕ → Bool) → ℕ → ℕ → List ℕ
those test lo zero = []
those test lo (suc n) = cond (test lo) (lo ∷ those test (suc lo) n) (those test (suc lo) n)

-- of the numbers from lo on and below hi, those that pass the test, in order
abbrev pub between : (ℕ → Bool) → ℕ → ℕ → List ℕ
between test lo hi = those test lo (hi - lo)

-- all numbers from lo on and below hi
abbrev pub run : ℕ → ℕ → List ℕ
run = between (λ _. true)
