-- What a slip is drawn from.
use Rattle.std.specs.Prelude.{List, [], ◌∷◌}
use Rattle.docset.specs.Meaning.{Meaning, Pair}
use Rattle.combiner.specs.Scores.{combined, summed}
use Rattle.scored.specs.Rescored.{rescored}
use Rattle.scored.specs.Optional.{both}
use Rattle.exclude.specs.Excluding.{without}

-- the required documents that were not seen, each with the sum of its score and of the optional one, if there is one
abbrev pub left_over : Meaning → Meaning → Meaning → List Pair
left_over m o s = without (s ∷ []) (rescored (both (combined summed (λ t. t.sum)) o.pairs) m.pairs)
