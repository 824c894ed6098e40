-- Leaves as lists: what a leaf tells when it stands on, passes or has passed its last id.
use Rattle.std.proofs.Common.{◌≡◌, ℕ, zero, suc, ◌-◌, ◌<◌, ◌≤◌, cond, eqb, List, [], ◌∷◌, length, get_or, drop, sym, refl, ap, ◌∙◌, subst, inl, inr, arith, length-drop, drop_of_length-le}
use Rattle.std.proofs.Math.Seq.{drop-cons}
use Rattle.docset.specs.Meaning.{Meaning, TERM, calm, ids, first_id, zero_score, one_score, ones, Rising, RisingIds}
use Rattle.docset.specs.Calls.{Told, Moved, Sought, Probed, Scored, Counted}
use Rattle.docset.specs.declared.docset.SeekDangerResult.{SeekDangerResult}
use Rattle.docset.specs.declared.docset.SeekDangerResult.TheVariants.{Found, SeekLowerBound}
use Rattle.docset.proofs.Lists.{short_from, lower}
use Rattle.docset.proofs.Probes.{always, probe_past, probe_sought}
use Rattle.leaves.specs.Lists.{listed, Small, Rises}

-- ---- a list of ids, each at 1.0

pub ids_ones : (xs : List ℕ) → ids (ones xs) ≡ xs
ids_ones [] = refl
ids_ones (x ∷ xs) = ap (λ (r : List ℕ). x ∷ r) (ids_ones xs)

pub length_ones : (xs : List ℕ) → length (ones xs) ≡ length xs
length_ones [] = refl
length_ones (x ∷ xs) = ap suc (length_ones xs)

pub drop_ones : (k : ℕ) (xs : List ℕ) → drop k (ones xs) ≡ ones (drop k xs)
drop_ones zero xs = refl
drop_ones (suc k) [] = refl
drop_ones (suc k) (x ∷ xs) = drop_ones k xs

pub rising_ones : (lo : ℕ) (xs : List ℕ) → RisingIds lo xs → Rising lo (ones xs)
rising_ones lo xs r = subst (λ (l : List ℕ). RisingIds lo l) (sym (ids_ones xs)) r

-- what a leaf that lists xs tells
pub told_ones : (xs : List ℕ) (d : ℕ) → RisingIds 0 xs → d ≡ first_id (ones xs) → d ≤ TERM → Told (calm (ones xs)) d
told_ones xs d r e l = record { an_id = l; rises = λ _. rising_ones 0 xs r; tells = λ _. e }

-- a leaf that goes on from xs to ys, which lacks the first id, and now tells d
pub moved_ones :
    (x : ℕ) (ys : List ℕ) (d : ℕ) → Told (calm (ones ys)) d → Moved (calm (ones (x ∷ ys))) (calm (ones ys)) d
moved_ones x ys d t =
    record {
      an_id = t.an_id;
      shrinks = omega arith;
      drops = inl (omega arith);
      becomes = λ _. refl;
      tells = λ _. t.tells refl;
    }

-- a leaf that has ended stays so
pub moved_none : Moved (calm []) (calm []) TERM
moved_none = record { an_id = omega arith; shrinks = omega arith; drops = inr refl; becomes = λ _. refl; tells = λ _. refl }

pub scored_some : (x : ℕ) (xs : List ℕ) → Scored (calm (ones (x ∷ xs))) (calm (ones (x ∷ xs))) one_score
scored_some x xs = record { shrinks = omega arith; same = λ _. refl; tells = λ _. refl }

pub scored_none : Scored (calm []) (calm []) zero_score
scored_none = record { shrinks = omega arith; same = λ _. refl; tells = λ _. refl }

-- the same of a list that is known to begin with x, or to be empty
pub moved_cons :
    (xs : List ℕ) (x : ℕ) (ys : List ℕ) (d : ℕ) → xs ≡ x ∷ ys → Told (calm (ones ys)) d →
    Moved (calm (ones xs)) (calm (ones ys)) d
moved_cons xs x ys d e t = subst (λ (l : List ℕ). Moved (calm (ones l)) (calm (ones ys)) d) (sym e) (moved_ones x ys d t)

pub moved_end :
    (xs : List ℕ) (d : ℕ) → xs ≡ [] → Told (calm (ones xs)) d → Moved (calm (ones xs)) (calm (ones xs)) d
moved_end xs d e t = let at : d ≡ TERM = t.tells refl ∙ ap (λ (l : List ℕ). first_id (ones l)) e in
    subst (λ (x : ℕ). Moved (calm (ones xs)) (calm (ones xs)) x) (sym at)
    (subst (λ (l : List ℕ). Moved (calm (ones l)) (calm (ones l)) TERM) (sym e) moved_none)

pub scored_cons : (xs : List ℕ) (x : ℕ) (ys : List ℕ) → xs ≡ x ∷ ys → Scored (calm (ones xs)) (calm (ones xs)) one_score
scored_cons xs x ys e =
    subst (λ (l : List ℕ). Scored (calm (ones l)) (calm (ones l)) one_score) (sym e) (scored_some x ys)

pub scored_end : (xs : List ℕ) → xs ≡ [] → Scored (calm (ones xs)) (calm (ones xs)) zero_score
scored_end xs e = subst (λ (l : List ℕ). Scored (calm (ones l)) (calm (ones l)) zero_score) (sym e) scored_none

pub told_cons : (xs : List ℕ) (x : ℕ) (ys : List ℕ) → RisingIds 0 xs → xs ≡ x ∷ ys → Told (calm (ones xs)) x
told_cons xs x ys r e =
    let b = subst (λ (l : List ℕ). RisingIds 0 l) e r in
    told_ones xs x r (ap (λ (l : List ℕ). first_id (ones l)) (sym e)) (omega (arith, b.1))

pub told_end : (xs : List ℕ) → xs ≡ [] → Told (calm (ones xs)) TERM
told_end xs e = told_ones xs TERM (subst (λ (l : List ℕ). RisingIds 0 l) (sym e) tt) (ap (λ (l : List ℕ). first_id (ones l)) (sym e)) (omega arith)

-- ---- ids in a slice, from a place on

rising_at :
    (lo : ℕ) (xs : List ℕ) → Small xs (length xs) → Rises xs (length xs) → (0 < length xs → lo ≤ get_or xs 0 0) → RisingIds lo xs
rising_at lo [] s r h = tt
rising_at lo (x ∷ xs) s r h = (
  h (omega arith),
  s 0 (omega arith),
  rising_at (suc x) xs (λ k l. s (suc k) (omega arith)) (λ k l. r (suc k) (omega arith)) (λ l. r 0 (omega arith)),
)

rising_drop : (k : ℕ) (lo : ℕ) (xs : List ℕ) → RisingIds lo xs → RisingIds 0 (drop k xs)
rising_drop zero lo xs r = lower 0 lo xs (omega arith) r
rising_drop (suc k) lo [] r = tt
rising_drop (suc k) lo (x ∷ xs) r = rising_drop k (suc x) xs r.2

pub slice_rises : (xs : List ℕ) (c : ℕ) → Small xs (length xs) → Rises xs (length xs) → RisingIds 0 (drop c xs)
slice_rises xs c s r = rising_drop c 0 xs (rising_at 0 xs s r (λ h. omega arith))

pub slice_short : (xs : List ℕ) → Small xs (length xs) → Rises xs (length xs) → length xs ≤ TERM
slice_short xs s r = omega (arith, short_from 0 xs (slice_rises xs 0 s r) (omega arith))

-- the id at a place, or TERM past the last, is the first of what is left
first_at : (xs : List ℕ) (c : ℕ) → get_or xs c TERM ≡ first_id (ones (drop c xs))
first_at [] zero = refl
first_at [] (suc c) = refl
first_at (x ∷ xs) zero = refl
first_at (x ∷ xs) (suc c) = first_at xs c

first_small : (xs : List ℕ) → RisingIds 0 xs → first_id (ones xs) ≤ TERM
first_small [] r = omega arith
first_small (x ∷ xs) r = omega (arith, r.1)

pub slice_told :
    (xs : List ℕ) (c d : ℕ) → Small xs (length xs) → Rises xs (length xs) → d ≡ get_or xs c TERM → Told (listed xs c) d
slice_told xs c d s r e =
    let rises = slice_rises xs c s r in
    let at : d ≡ first_id (ones (drop c xs)) = e ∙ first_at xs c in
    told_ones (drop c xs) d rises at (omega (arith, first_small (drop c xs) rises))

pub slice_moved : (xs : List ℕ) (c d : ℕ) → c < length xs → Told (listed xs (suc c)) d → Moved (listed xs c) (listed xs (suc c)) d
slice_moved xs c d h t = moved_cons (drop c xs) (get_or xs c 0) (drop (suc c) xs) d (drop-cons xs c 0 h) t

pub slice_stays :
    (xs : List ℕ) (c d : ℕ) → length xs ≤ c → Told (listed xs c) d → Moved (listed xs c) (listed xs c) d
slice_stays xs c d h t = moved_end (drop c xs) d (drop_of_length-le xs {i = c} h) t

pub slice_scored : (xs : List ℕ) (c : ℕ) → c < length xs → Scored (listed xs c) (listed xs c) one_score
slice_scored xs c h = scored_cons (drop c xs) (get_or xs c 0) (drop (suc c) xs) (drop-cons xs c 0 h)

pub slice_scored_end : (xs : List ℕ) (c : ℕ) → length xs ≤ c → Scored (listed xs c) (listed xs c) zero_score
slice_scored_end xs c h = scored_end (drop c xs) (drop_of_length-le xs {i = c} h)

pub slice_counted : (xs : List ℕ) (c : ℕ) → Counted (listed xs c) (length xs - c)
slice_counted xs c = record { tells = λ _. sym (length_ones (drop c xs) ∙ length-drop c xs) }
