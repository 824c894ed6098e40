-- What the box works out of a card's lines.
use Rattle.std.specs.Prelude.{ℕ, ◌+◌, cond, List, [], ◌∷◌, Some, None, Ok, Err, Option, Result}
use Rattle.docset.specs.Meaning.{Pair, has}
use Rattle.docset.specs.declared.refusal.Refusal.{Refusal}
use Rattle.card.specs.declared.fault.CardFault.{CardFault}
use Rattle.card.specs.declared.fault.CardFault.TheVariants.{Ids}

-- the ids of line n, where nothing refuses them
abbrev pub leaf_read : ℕ → Option Refusal → List ℕ → Result (List ℕ) CardFault
leaf_read n None ids = Ok ids
leaf_read n (Some why) ids = Err (Ids n why)

-- how many of these ids are listed
abbrev pub listed_count : List ℕ → List Pair → ℕ
listed_count [] ps = 0
listed_count (x ∷ xs) ps = cond (has x ps) 1 0 + listed_count xs ps
