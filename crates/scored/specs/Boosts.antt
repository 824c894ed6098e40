-- A boost.
use Rattle.std.specs.Prelude.{ℕ, cond, [], Some, None, Option, Float}
use Rattle.std.specs.Float.Ieee.{mul}
use Rattle.std.specs.Float.{binary32}
use Rattle.docset.specs.Meaning.{Meaning, calm}
use Rattle.combiner.specs.Scores.{finite}
use Rattle.scored.specs.Rescored.{retold}

-- every score times b, rounded once to 32 bits
abbrev pub boosted : Float → Meaning → Meaning
boosted b = retold (λ p. mul binary32 p.score b)

-- the factor that a boost has which was given b: b itself, or none where b is refused
abbrev pub factor_of : Float → Option Float
factor_of b = cond (finite b) (Some b) None

-- a boost without a factor is an empty set
abbrev pub boost_means : Option Float → Meaning → Meaning
boost_means None m = calm []
boost_means (Some b) m = boosted b m

-- its hint and its cost are 0, and otherwise those of the set below
abbrev pub unless : Option Float → ℕ → ℕ
unless None n = 0
unless (Some b) n = n
