-- What a document set means: the list of what it will still hand out, and a mark that says how far its answers are promised.
use Rattle.std.specs.Prelude.{◌≡◌, ℕ, suc, ◌<◌, ◌≤◌, Bool, true, false, cond, ◌&&◌, ◌||◌, List, [], ◌∷◌, ◌==◌, from_bits, nat_le, nat_lt, Float}
use Rattle.std.specs.Float.{binary32}

-- the number that stands for "no document"; an id is any smaller number
abbrev pub TERM : ℕ
TERM = 2147483647

-- A steady set answers every call by its list. An astray set, which a missed probe may leave, does so for probes alone.
-- Of a lost set, a combinator over a set that was not steady, only safety is promised.
pub data Mark : Type 0 where
  steady astray lost : Mark

-- a document and its score
pub record Pair : Type 0 where
  pub id : ℕ
  pub score : Float

-- the documents still listed, the current one first, and the mark
pub record Meaning : Type 0 where
  pub pairs : List Pair
  pub mark : Mark

abbrev pub Steady : Meaning → Type 0
Steady m = m.mark ≡ steady

-- the same as a test
abbrev pub is_steady : Mark → Bool
is_steady steady = true
is_steady astray = false
is_steady lost = false

-- a mark on which probes are promised: steady or astray
abbrev pub Known : Mark → Type 0
Known steady = Unit {0}
Known astray = Unit {0}
Known lost = ⊥

-- the steady meaning with this list
abbrev pub calm : List Pair → Meaning
calm ps = record { pairs = ps; mark = steady }

-- the score 0.0, told where there is no document
abbrev pub zero_score : Float
zero_score = from_bits binary32 0

-- the score 1.0, which every leaf gives its documents
abbrev pub one_score : Float
one_score = from_bits binary32 1065353216

-- ---- reading a list

abbrev pub ids : List Pair → List ℕ
ids [] = []
ids (p ∷ ps) = p.id ∷ ids ps

-- the current document, or TERM where there is none
abbrev pub first_id : List Pair → ℕ
first_id [] = TERM
first_id (p ∷ ps) = p.id

abbrev pub first_score : List Pair → Float
first_score [] = zero_score
first_score (p ∷ ps) = p.score

-- whether t is listed
abbrev pub has : ℕ → List Pair → Bool
has t [] = false
has t (p ∷ ps) = p.id == t || has t ps

-- ---- dropping from a list

-- the list without its first pair
abbrev pub rest : List Pair → List Pair
rest [] = []
rest (p ∷ ps) = ps

-- the list without the pairs below t that it begins with
abbrev pub from : ℕ → List Pair → List Pair
from t [] = []
from t (p ∷ ps) = cond (nat_lt p.id t) (from t ps) (p ∷ ps)

-- what a probe of t leaves: no pair is dropped where t is no id
abbrev pub probed : ℕ → List Pair → List Pair
probed t ps = cond (nat_lt t TERM) (from t ps) ps

-- ---- order

-- numbers that rise strictly from lo on and stay below TERM
abbrev pub RisingIds : ℕ → List ℕ → Type 0
RisingIds lo [] = Unit {0}
RisingIds lo (x ∷ xs) = (lo ≤ x) × (x < TERM) × RisingIds (suc x) xs

abbrev pub Rising : ℕ → List Pair → Type 0
Rising lo ps = RisingIds lo (ids ps)

-- the same as a test
abbrev pub rises_from : ℕ → List Pair → Bool
rises_from lo [] = true
rises_from lo (p ∷ ps) = nat_le lo p.id && (nat_lt p.id TERM && rises_from (suc p.id) ps)

-- ---- lists of one score

-- each of these ids at the score 1.0
abbrev pub ones : List ℕ → List Pair
ones [] = []
ones (x ∷ xs) = record { id = x; score = one_score } ∷ ones xs
