-- All documents of a segment.
use Rattle.std.proofs.Common.{◌≡◌, ℕ, suc, ◌+◌, ◌-◌, ◌<◌, ◌≤◌, min, max, true, List, [], ◌∷◌, ◌++◌, length, take, drop, set, sym, refl, ap, ◌∙◌, inl, inr, ⊎_elim, drop_of_length-le, append-nil, arith}
use Rattle.std.proofs.lemmas.Bool.{cases_lt}
use Rattle.docset.specs.Meaning.{Meaning, RisingIds, Pair, TERM, calm, zero_score, one_score, ones}
use Rattle.docset.specs.Calls.{Told, Moved, Sought, Scored, Filled, Counted}
use Rattle.docset.proofs.Lists.{from_all}
use Rattle.docset.proofs.Probes.{sought_told}
use Rattle.docset.proofs.Walking.{block_of, set_seam}
use Rattle.leaves.specs.Ranges.{those, run}
use Rattle.leaves.proofs.Leaves.{ids_ones, length_ones, drop_ones, told_cons, told_end, moved_cons, moved_end, scored_cons, scored_end}
use Rattle.leaves.proofs.Ranges.{between_end, between_hit, between_rises, between_rises_0, first_least, from_between, run_length, run_at, run_take, run_drop}

pub run_cons : (lo hi : ℕ) → lo < hi → run lo hi ≡ lo ∷ run (suc lo) hi
run_cons lo hi h = between_hit (λ _. true) lo hi h refl

pub run_end : (lo hi : ℕ) → hi ≤ lo → run lo hi ≡ []
run_end lo hi h = between_end (λ _. true) lo hi h

ids_small : (hi : ℕ) → hi ≤ TERM → (k : ℕ) → k < hi → true ≡ true → k < TERM
ids_small hi s k h e = omega arith

pub run_rises : (lo hi : ℕ) → hi ≤ TERM → RisingIds 0 (run lo hi)
run_rises lo hi s = between_rises_0 (λ _. true) lo hi (ids_small hi s)

pub all_told : (lo hi : ℕ) → hi ≤ TERM → lo < hi → Told (calm (ones (run lo hi))) lo
all_told lo hi s h =
    told_cons (run lo hi) lo (run (suc lo) hi) (run_rises lo hi s) (run_cons lo hi h)

pub all_told_end : (lo hi : ℕ) → hi ≤ lo → Told (calm (ones (run lo hi))) 2147483647
all_told_end lo hi h = told_end (run lo hi) (run_end lo hi h)

pub all_moved :
    (lo hi d : ℕ) → lo < hi → Told (calm (ones (run (suc lo) hi))) d →
    Moved (calm (ones (run lo hi))) (calm (ones (run (suc lo) hi))) d
all_moved lo hi d h t = moved_cons (run lo hi) lo (run (suc lo) hi) d (run_cons lo hi h) t

-- where it has ended it stays
pub all_stays :
    (lo hi d : ℕ) → hi ≤ lo → Told (calm (ones (run lo hi))) d → Moved (calm (ones (run lo hi))) (calm (ones (run lo hi))) d
all_stays lo hi d h t = moved_end (run lo hi) d (run_end lo hi h) t

-- from t on, or from the end
run_min : (t hi : ℕ) → run t hi ≡ run (min t hi) hi
run_min t hi =
    ⊎_elim {C = run t hi ≡ run (min t hi) hi}
    (λ h. let e : min t hi ≡ t = omega arith in ap (λ (x : ℕ). run x hi) (sym e))
    (λ h. run_end t hi h ∙ sym (run_end (min t hi) hi (omega arith)))
    (cases_lt t hi)

-- a seek of t goes to t, but neither back nor past the end
pub all_sought :
    (t lo hi j d : ℕ) → hi ≤ TERM → lo ≤ hi → j ≡ max lo (min t hi) → Told (calm (ones (run j hi))) d →
    Sought t (calm (ones (run lo hi))) (calm (ones (run j hi))) d
all_sought t lo hi j d s l e =
    ⊎_elim {C = Told (calm (ones (run j hi))) d → Sought t (calm (ones (run lo hi))) (calm (ones (run j hi))) d}
    (λ h u.
    let i : min t hi ≡ j = omega arith in
    sought_told t (ones (run lo hi)) (ones (run j hi)) d
    (from_between (λ _. true) lo t hi (omega arith) (ids_small hi s) ∙ ap ones (run_min t hi ∙ ap (λ (x : ℕ). run x hi) i)) u)
    (λ h u.
    let i : lo ≡ j = omega arith in
    let k = first_least lo (run lo hi) (omega arith) (between_rises (λ _. true) lo hi (ids_small hi s)) in
    sought_told t (ones (run lo hi)) (ones (run j hi)) d
    (from_all t (ones (run lo hi)) (omega arith) ∙ ap (λ (x : ℕ). ones (run x hi)) i) u)
    (cases_lt lo t)

pub all_scored : (lo hi : ℕ) → lo < hi → Scored (calm (ones (run lo hi))) (calm (ones (run lo hi))) one_score
all_scored lo hi h = scored_cons (run lo hi) lo (run (suc lo) hi) (run_cons lo hi h)

pub all_scored_end : (lo hi : ℕ) → hi ≤ lo → Scored (calm (ones (run lo hi))) (calm (ones (run lo hi))) zero_score
all_scored_end lo hi h = scored_end (run lo hi) (run_end lo hi h)

pub all_counted : (lo hi : ℕ) → Counted (calm (ones (run lo hi))) (hi - lo)
all_counted lo hi = record { tells = λ _. sym (length_ones (run lo hi) ∙ run_length lo (hi - lo)) }

-- ---- blocks

-- the first i places hold the first i numbers from lo on
unfoldable pub Written : ℕ → ℕ → ℕ → List ℕ → List ℕ → Type 0
Written lo n i old new = new ≡ take i (those (λ _. true) lo n) ++ drop i old

pub written_more :
    (lo n i : ℕ) (old new : List ℕ) → i < n → i < length old → Written lo n i old new →
    Written lo n (suc i) old (set new i (lo + i))
unfolding Written
written_more lo n i old new h k w =
    ap (λ (l : List ℕ). set l i (lo + i)) w ∙
    ap (λ (x : ℕ). set (take i (those (λ _. true) lo n) ++ drop i old) i x) (sym (run_at lo n i h)) ∙
    set_seam (those (λ _. true) lo n) old i (omega (arith, run_length lo n)) k

pub written_all : (lo : ℕ) (old new : List ℕ) → Written lo (length old) (length old) old new → new ≡ run lo (lo + length old)
unfolding Written
written_all lo old new w =
    let n : ℕ = length old in
    let e : lo + n - lo ≡ n = omega arith in
    w ∙
    ap (λ (l : List ℕ). take n (those (λ _. true) lo n) ++ l) (drop_of_length-le old {i = n} (omega arith)) ∙
    append-nil (take n (those (λ _. true) lo n)) ∙
    run_take lo n n (omega arith) ∙
    sym (ap (those (λ _. true) lo) e)

pub written_none : (lo n : ℕ) (old : List ℕ) → Written lo n 0 old old
unfolding Written
written_none lo n old = refl

-- a block of i, which is 64 or all that are left
pub all_filled :
    (lo hi i : ℕ) (old new : List ℕ) → i ≡ min (hi - lo) 64 → new ≡ run lo (lo + i) ++ drop i old →
    Filled (calm (ones (run lo hi))) (calm (ones (run (lo + i) hi))) old new i
all_filled lo hi i old new m w =
    let a : i ≤ 64 = omega arith in
    let b : i ≤ hi - lo = omega arith in
    let n : ℕ = hi - lo in
    let len : length (ones (run lo hi)) ≡ n = length_ones (run lo hi) ∙ run_length lo n in
    let len' : length (ones (run (lo + i) hi)) ≡ hi - (lo + i) = length_ones (run (lo + i) hi) ∙ run_length (lo + i) (hi - (lo + i)) in
    let e : hi - (lo + i) ≡ n - i = omega arith in
    let f : lo + i - lo ≡ i = omega arith in
    block_of (calm (ones (run lo hi))) (calm (ones (run (lo + i) hi))) old new i a (omega arith)
    (λ _. ⊎_elim (λ h. inr (omega arith)) (λ h. inl (omega arith)) (cases_lt (hi - lo) 64))
    (λ _. omega arith)
    (λ _.
    ap {B = Meaning} (λ (l : List Pair). calm l)
    (ap (λ (x : ℕ). ones (those (λ _. true) (lo + i) x)) e ∙ ap ones (sym (run_drop lo n i b)) ∙ sym (drop_ones i (run lo hi))))
    (λ _.
    w ∙
    ap (λ (l : List ℕ). l ++ drop i old)
    (ap (those (λ _. true) lo) f ∙ sym (run_take lo n i b) ∙ ap (take i) (sym (ids_ones (run lo hi)))))
