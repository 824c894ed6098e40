-- The hints and costs of several sets: those of the live ones, their sum, and the greatest of all.
use Rattle.std.proofs.Common.{Option, ◌≡◌, ℕ, zero, suc, ◌+◌, max, Bool, List, [], ◌∷◌, map, get_or, take, drop, refl, ap, ◌∙◌, add-one, arith}
use Rattle.std.proofs.Math.Seq.{drop-nil, take-nil}
use Rattle.std.specs.Iterator.{PicksByCmp}
use Rattle.std.proofs.lemmas.Iterator.{YieldsList}
use Rattle.std.specs.List.{fold, range_with_len}
use Rattle.std.specs.Option.{unwrap_or}
use Rattle.std.specs.Ordering.{nat_cmp, max_by_ordering}
use Rattle.std.proofs.lemmas.Iterator.Consumers.{reduce_from_yields_List}
use Rattle.std.proofs.lemmas.List.Folds.{max_of_map}
use Rattle.live.specs.Kept.{chosen, greatest_of, greatest}

-- the numbers at the live places from i on
abbrev pub later : List Bool → List ℕ → ℕ → List ℕ
later bs xs i = chosen i (drop i bs) xs

-- the greatest of n numbers from place i on
greatest_next :
    (xs : List ℕ) (i n : ℕ) → greatest_of (take (suc n) (drop i xs)) ≡ max (get_or xs i 0) (greatest_of (take n (drop (i + 1) xs)))
greatest_next [] i n = rw (drop-nil i) (rw (drop-nil (i + 1)) (rw (take-nil n) refl))
greatest_next (x ∷ xs) zero n = refl
greatest_next (x ∷ xs) (suc i) n = let e = greatest_next xs i n in rw add-one (rw add-one at e)

greatest_range :
    (xs : List ℕ) (i n acc : ℕ) →
    fold (λ a k. max a (get_or xs k 0)) acc (range_with_len i n) ≡ max acc (greatest_of (take n (drop i xs)))
greatest_range xs i zero acc = omega arith
greatest_range xs i (suc n) acc =
    let e = greatest_next xs i n in
    greatest_range xs (i + 1) n (max acc (get_or xs i 0)) ∙ omega arith

-- the maximum of what the first 32 places, asked in turn, answer
pub greatest_asked :
    {S : Type 0} {steps : S → Option ℕ → S → Type 0} (xs : List ℕ) (s : S) (r : Option ℕ) → PicksByCmp steps max_by_ordering nat_cmp s r →
    YieldsList steps (λ x. x) s (map (λ k. get_or xs k 0) (range_with_len 0 32)) → unwrap_or r 0 ≡ greatest xs
greatest_asked xs s r p y =
    let ask : ℕ → ℕ = λ k. get_or xs k 0 in
    let e = greatest_range xs 0 32 0 in
    ap (λ o. unwrap_or o 0) (reduce_from_yields_List _ s r p y) ∙ max_of_map ask (range_with_len 0 32) ∙ omega arith
