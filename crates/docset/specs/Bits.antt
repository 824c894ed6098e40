-- Ids held as bits of 64-bit words.
use Rattle.std.specs.Prelude.{ℕ, ◌+◌, ◌/◌, ◌%◌, ◌^◌, Bool, cond, List, [], ◌∷◌, ◌==◌, slice_index}
use Rattle.docset.specs.Meaning.{Pair}

-- whether bit d mod 64, lowest first, of word d div 64 is set; past the words none is
abbrev pub bit_set : List ℕ → ℕ → Bool
bit_set ws d = slice_index ws (d / 64) / 2 ^ (d % 64) % 2 == 1

-- the sum of a weight over the listed ids
abbrev pub weighed : (ℕ → ℕ) → List Pair → ℕ
weighed w [] = 0
weighed w (p ∷ ps) = w p.id + weighed w ps

-- how many listed ids have their bit set in the words
abbrev pub count_alive : List ℕ → List Pair → ℕ
count_alive ws = weighed (λ d. cond (bit_set ws d) 1 0)
