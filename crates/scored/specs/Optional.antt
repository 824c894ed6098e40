-- Required documents, whose scores are combined with optional ones.
use Rattle.std.specs.Prelude.{◌≡◌, ℕ, Bool, true, false, cond, ◌&&◌, ◌⊎◌, List, [], ◌∷◌, Some, None, Option, ◌==◌, Float}
use Rattle.std.specs.Ordering.{int_eq}
use Rattle.std.specs.Bool.{beq}
use Rattle.std.specs.Float.{nan, inf, fin}
use Rattle.docset.specs.Meaning.{Meaning, lost, is_steady, Pair, Steady, first_score, from}
use Rattle.std.specs.Option.{option_to_list}
use Rattle.scored.specs.Rescored.{rescored, retold}

-- the score of an id, if the list has it
abbrev pub scores_of : ℕ → List Pair → List Float
scores_of d [] = []
scores_of d (p ∷ ps) = cond (p.id == d) (p.score ∷ []) (scores_of d ps)

-- a required pair's score: what h makes of its own and then of the optional one. It stays the same while the optional
-- list qs loses pairs below the pair's id.
abbrev pub both : (List Float → Float) → List Pair → Pair → Float
both h qs p = h (p.score ∷ scores_of p.id qs)

-- ---- the meaning

-- whether two scores are the same one, so that 0.0 and -0.0 differ and what is not a number is itself
abbrev pub same_float : Float → Float → Bool
same_float nan nan = true
same_float nan (inf b) = false
same_float nan (fin s m e) = false
same_float (inf a) nan = false
same_float (inf a) (inf b) = beq a b
same_float (inf a) (fin s m e) = false
same_float (fin s m e) nan = false
same_float (fin s m e) (inf b) = false
same_float (fin s m e) (fin t n f) = beq s t && (m == n && int_eq e f)

-- a score that was kept, if there is one, is the first
abbrev pub cached : Option Float → List Pair → Bool
cached None ps = true
cached (Some x) ps = same_float x (first_score ps)

-- m, but lost where the test fails
abbrev pub marked : Bool → Meaning → Meaning
marked c m = record { pairs = m.pairs; mark = cond c m.mark lost }

-- The required set m beside the optional set o, with the kept score k: the ids and the mark of m, and the combined scores.
-- It is lost where o is not steady. That k is the first score is so of every such value: every call sees to it.
abbrev pub opted : (List Float → Float) → Option Float → Meaning → Meaning → Meaning
opted h k m o =
    marked (is_steady o.mark && cached k (rescored (both h o.pairs) m.pairs)) (retold (both h o.pairs) m)

-- ---- the look for an optional score

-- q is what a look for d leaves of o: at most pairs below d are dropped. It finds r.
pub record LookedUp (d : ℕ) (o q : Meaning) (r : Option Float) : Type 0 where
  pub still : Steady o → Steady q
  pub list : Steady o → (q.pairs ≡ o.pairs) ⊎ (q.pairs ≡ from d o.pairs)
  pub finds : Steady o → scores_of d o.pairs ≡ option_to_list r
