-- A set with other scores.
use Rattle.std.specs.Prelude.{List, [], ◌∷◌, Float}
use Rattle.docset.specs.Meaning.{Meaning, Pair}

-- each pair's score is what f makes of the pair; the ids stay
abbrev pub rescored : (Pair → Float) → List Pair → List Pair
rescored f [] = []
rescored f (p ∷ ps) = record { id = p.id; score = f p } ∷ rescored f ps

-- the mark stays too
abbrev pub retold : (Pair → Float) → Meaning → Meaning
retold f m = record { pairs = rescored f m.pairs; mark = m.mark }
