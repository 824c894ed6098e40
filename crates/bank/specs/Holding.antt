-- Whether any set of a bank lists an id.
use Rattle.std.specs.Prelude.{◌≡◌, ℕ, suc, ◌≤◌, Bool, true, false, cond, ◌&&◌, ◌||◌, ◌⊎◌, List, [], ◌∷◌, length, drop}
use Rattle.docset.specs.Meaning.{Meaning, Mark, steady, astray, lost, Known, from, has}
use Rattle.bank.specs.Places.{Rows}

-- whether any of the lists has the id
abbrev pub held : ℕ → List Meaning → Bool
held d [] = false
held d (m ∷ ms) = has d m.pairs || held d ms

-- whether a mark is steady or astray, so that probes are promised
abbrev pub is_known : Mark → Bool
is_known steady = true
is_known astray = true
is_known lost = false

abbrev pub all_known : List Meaning → Bool
all_known [] = true
all_known (m ∷ ms) = is_known m.mark && all_known ms

-- every set of the bank is steady or astray
abbrev pub AllKnown : List Meaning → Type 0
AllKnown ms = all_known ms ≡ true

-- how many sets are probed for d: those up to the first that has it, or all
abbrev pub reached : ℕ → List Meaning → ℕ
reached d [] = 0
reached d (m ∷ ms) = suc (cond (has d m.pairs) 0 (reached d ms))

-- n is m, with at most pairs below d dropped; its mark stays known
pub record Trimmed (d : ℕ) (m n : Meaning) : Type 0 where
  pub shrinks : length n.pairs ≤ length m.pairs
  pub known : Known m.mark → Known n.mark
  pub drops : Known m.mark → (n.pairs ≡ m.pairs) ⊎ (n.pairs ≡ from d m.pairs)

-- place by place
abbrev pub Trims : ℕ → List Meaning → List Meaning → Type 0
Trims d [] [] = Unit {0}
Trims d [] (n ∷ ns) = ⊥
Trims d (m ∷ ms) [] = ⊥
Trims d (m ∷ ms) (n ∷ ns) = Trimmed d m n × Trims d ms ns

-- from place j on, all is as it was
pub record Untouched (j : ℕ) (P Q : Rows) : Type 0 where
  pub lists : drop j Q.places ≡ drop j P.places
  pub guesses : drop j Q.hints ≡ drop j P.hints
  pub costs : drop j Q.prices ≡ drop j P.prices

-- `holds`: r says whether any list has d. The sets are trimmed at d, and those after the first that has it are not touched.
-- A probe may change its set's hint and cost as it likes, so those of the sets that were probed are left free.
pub record Contained (d : ℕ) (P Q : Rows) (r : Bool) : Type 0 where
  pub answers : AllKnown P.places → r ≡ held d P.places
  pub trims : Trims d P.places Q.places
  pub later : AllKnown P.places → Untouched (reached d P.places) P Q
