-- Lemmas on lists of pairs: order, length, `from`, `has`, and steady meanings.
use Rattle.std.proofs.Common.{◌≡◌, ℕ, suc, ◌+◌, ◌<◌, ◌≤◌, Bool, true, false, cond, ◌&&◌, ◌||◌, ltb, leb, ◌⊎◌, List, [], ◌∷◌, length, sym, refl, ap, ◌∙◌, subst, inl, inr, ⊎_elim, arith}
use Rattle.std.proofs.lemmas.Bool.{lt-ltb, le-ltb, le-leb, ltb-true, leb-true, cond-true, cond-false, cases_lt, eq-eqb, ne_eqb, and_parts, and_from}
use Rattle.docset.specs.Meaning.{Meaning, Mark, steady, astray, lost, is_steady, Pair, TERM, Steady, Known, calm, ids, first_id, rest, from, has, probed, Rising, RisingIds, rises_from}

-- ---- meanings

-- a steady meaning with a known list
pub settled : (n : Meaning) (ps : List Pair) → Steady n → n.pairs ≡ ps → n ≡ calm ps
settled n ps s e =
    ap {B = Meaning} (λ (k : Mark). record { pairs = n.pairs; mark = k }) s ∙
    ap {B = Meaning} (λ (x : List Pair). calm x) e

pub steady_known : (k : Mark) → k ≡ steady → Known k
steady_known k e = subst (λ (x : Mark). Known x) (sym e) tt

pub steady_is : (k : Mark) → k ≡ steady → is_steady k ≡ true
steady_is k e = ap is_steady e

pub is_then_steady : (k : Mark) → is_steady k ≡ true → k ≡ steady
is_then_steady steady e = refl
is_then_steady astray e = absurd (let z : ◌≡◌ {A = ℕ} 0 1 = cc in omega arith)
is_then_steady lost e = absurd (let z : ◌≡◌ {A = ℕ} 0 1 = cc in omega arith)

-- ---- order

-- only the empty list begins with TERM
pub ended : (lo : ℕ) (ps : List Pair) → Rising lo ps → first_id ps ≡ TERM → ps ≡ []
ended lo [] h e = refl
ended lo (p ∷ ps) h e = absurd (omega (arith, h.1))

pub short_from : (lo : ℕ) (xs : List ℕ) → RisingIds lo xs → lo ≤ TERM → lo + length xs ≤ TERM
short_from lo [] h k = omega arith
short_from lo (x ∷ xs) h k = omega (arith, short_from (suc x) xs h.2 (omega (arith, h.1)), h.0)

pub length_ids : (ps : List Pair) → length (ids ps) ≡ length ps
length_ids [] = refl
length_ids (p ∷ ps) = ap suc (length_ids ps)

-- a rising list is short enough to be counted in 32 bits
pub short : (ps : List Pair) → Rising 0 ps → length ps ≤ TERM
short ps h = omega (arith, short_from 0 (ids ps) h (omega arith), length_ids ps)

pub lower : (lo hi : ℕ) (xs : List ℕ) → lo ≤ hi → RisingIds hi xs → RisingIds lo xs
lower lo hi [] h r = tt
lower lo hi (x ∷ xs) h r = (omega (arith, r.0), r.1, r.2)

pub rising_rest : (ps : List Pair) → Rising 0 ps → Rising 0 (rest ps)
rising_rest [] r = tt
rising_rest (p ∷ ps) r = lower 0 (suc p.id) (ids ps) (omega arith) r.2

pub rising_from : (t lo : ℕ) (ps : List Pair) → Rising lo ps → Rising lo (from t ps)
rising_from t lo [] r = tt
rising_from t lo (p ∷ ps) r =
    elim (ltb p.id t) as (λ (b : Bool). Rising lo (cond b (from t ps) (p ∷ ps))) [
      | true ↦ lower lo (suc p.id) (ids (from t ps)) (omega (arith, r.0)) (rising_from t (suc p.id) ps r.2)
      | false ↦ r
    ]

-- the test
pub rising_is : (lo : ℕ) (ps : List Pair) → Rising lo ps → rises_from lo ps ≡ true
rising_is lo [] h = refl
rising_is lo (p ∷ ps) h =
    and_from _ _ (le-leb lo p.id h.0) (and_from _ _ (lt-ltb p.id TERM h.1) (rising_is (suc p.id) ps h.2))

pub is_then_rising : (lo : ℕ) (ps : List Pair) → rises_from lo ps ≡ true → Rising lo ps
is_then_rising lo [] h = tt
is_then_rising lo (p ∷ ps) h =
    let a = and_parts (leb lo p.id) (ltb p.id TERM && rises_from (suc p.id) ps) h in
    let b = and_parts (ltb p.id TERM) (rises_from (suc p.id) ps) a.1 in
    (leb-true lo p.id a.0, ltb-true p.id TERM b.0, is_then_rising (suc p.id) ps b.1)

-- ---- `from`

pub from_lt : (t : ℕ) (p : Pair) (ps : List Pair) → p.id < t → from t (p ∷ ps) ≡ from t ps
from_lt t p ps h = cond-true (ltb p.id t) (from t ps) (p ∷ ps) (lt-ltb p.id t h)

pub from_ge : (t : ℕ) (p : Pair) (ps : List Pair) → t ≤ p.id → from t (p ∷ ps) ≡ p ∷ ps
from_ge t p ps h = cond-false (ltb p.id t) (from t ps) (p ∷ ps) (le-ltb p.id t h)

pub from_shorter : (t : ℕ) (ps : List Pair) → length (from t ps) ≤ length ps
from_shorter t [] = omega arith
from_shorter t (p ∷ ps) =
    elim (ltb p.id t) as (λ (b : Bool). length (cond b (from t ps) (p ∷ ps)) ≤ suc (length ps)) [
      | true ↦ omega (arith, from_shorter t ps)
      | false ↦ omega arith
    ]

-- a list that begins at t or later loses nothing
pub from_all : (t : ℕ) (ps : List Pair) → t ≤ first_id ps → from t ps ≡ ps
from_all t [] h = refl
from_all t (p ∷ ps) h = from_ge t p ps h

-- dropping the first pair first changes nothing where it is below t
pub from_rest : (t : ℕ) (ps : List Pair) → first_id ps < t → from t (rest ps) ≡ from t ps
from_rest t [] h = refl
from_rest t (p ∷ ps) h = sym (from_lt t p ps h)

-- what is left begins at t or later
pub from_least : (t : ℕ) (ps : List Pair) → t ≤ TERM → t ≤ first_id (from t ps)
from_least t [] h = h
from_least t (p ∷ ps) h =
    ⊎_elim {C = t ≤ first_id (from t (p ∷ ps))}
    (λ k. rw (from_lt t p ps k) (from_least t ps h))
    (λ k. rw (from_ge t p ps k) k)
    (cases_lt p.id t)

-- where t is not listed, what begins at t begins past it
pub from_next : (t : ℕ) (ps : List Pair) → (first_id (from t ps) ≡ t → ⊥) → from (suc t) ps ≡ from t ps
from_next t [] h = refl
from_next t (p ∷ ps) h =
    ⊎_elim {C = from (suc t) (p ∷ ps) ≡ from t (p ∷ ps)}
    (λ k.
    from_lt (suc t) p ps (omega arith) ∙ from_next t ps (λ z. h (ap first_id (from_lt t p ps k) ∙ z)) ∙
    sym (from_lt t p ps k))
    (λ k.
    let ne : p.id ≡ t → ⊥ = λ z. h (ap first_id (from_ge t p ps k) ∙ z) in
    let lt : t < p.id = omega (arith, k, ne) in
    from_ge (suc t) p ps lt ∙ sym (from_ge t p ps k))
    (cases_lt p.id t)

-- a seek that comes to no id
pub from_end : (t : ℕ) (ps : List Pair) → Rising 0 ps → (t ≤ first_id ps) ⊎ (first_id ps ≡ TERM) → from t ps ≡ ps
from_end t ps r (inl h) = from_all t ps h
from_end t ps r (inr h) = subst (λ (x : List Pair). from t x ≡ x) (sym (ended 0 ps r h)) refl

-- ---- `has`

pub has_ne : (t : ℕ) (p : Pair) (ps : List Pair) → (p.id ≡ t → ⊥) → has t (p ∷ ps) ≡ has t ps
has_ne t p ps h = ap (λ (b : Bool). b || has t ps) (ne_eqb p.id t h)

pub has_eq : (t : ℕ) (p : Pair) (ps : List Pair) → p.id ≡ t → has t (p ∷ ps) ≡ true
has_eq t p ps h = ap (λ (b : Bool). b || has t ps) (eq-eqb p.id t h)

-- an id that a seek comes to is listed
pub has_found : (t : ℕ) (ps : List Pair) → t < TERM → first_id (from t ps) ≡ t → has t ps ≡ true
has_found t [] h e = absurd (omega arith)
has_found t (p ∷ ps) h e =
    ⊎_elim {C = has t (p ∷ ps) ≡ true}
    (λ k. has_ne t p ps (λ z. omega arith) ∙ has_found t ps h (sym (ap first_id (from_lt t p ps k)) ∙ e))
    (λ k. has_eq t p ps (sym (ap first_id (from_ge t p ps k)) ∙ e))
    (cases_lt p.id t)

-- no id below where the list begins
pub has_below : (t lo : ℕ) (ps : List Pair) → Rising lo ps → t < lo → has t ps ≡ false
has_below t lo [] r h = refl
has_below t lo (p ∷ ps) r h =
    has_ne t p ps (λ z. omega (arith, r.0)) ∙ has_below t (suc p.id) ps r.2 (omega (arith, r.0))

-- no id from TERM on
pub has_beyond : (t lo : ℕ) (ps : List Pair) → Rising lo ps → TERM ≤ t → has t ps ≡ false
has_beyond t lo [] r h = refl
has_beyond t lo (p ∷ ps) r h =
    has_ne t p ps (λ z. omega (arith, r.1)) ∙ has_beyond t (suc p.id) ps r.2 h

-- an id that a seek does not come to is not listed
pub has_missed : (t lo : ℕ) (ps : List Pair) → Rising lo ps → (first_id (from t ps) ≡ t → ⊥) → has t ps ≡ false
has_missed t lo [] r h = refl
has_missed t lo (p ∷ ps) r h =
    ⊎_elim {C = has t (p ∷ ps) ≡ false}
    (λ k. has_ne t p ps (λ z. omega arith) ∙ has_missed t (suc p.id) ps r.2 (λ z. h (ap first_id (from_lt t p ps k) ∙ z)))
    (λ k.
    let ne : p.id ≡ t → ⊥ = λ z. h (ap first_id (from_ge t p ps k) ∙ z) in
    has_ne t p ps ne ∙ has_below t (suc p.id) ps r.2 (omega (arith, k)))
    (cases_lt p.id t)

-- ---- what a probe leaves

pub probed_id : (t : ℕ) (ps : List Pair) → t < TERM → probed t ps ≡ from t ps
probed_id t ps h = cond-true (ltb t TERM) (from t ps) ps (lt-ltb t TERM h)

pub probed_none : (t : ℕ) (ps : List Pair) → TERM ≤ t → probed t ps ≡ ps
probed_none t ps h = cond-false (ltb t TERM) (from t ps) ps (le-ltb t TERM h)

-- a rising list rises from its first id on
pub rising_here : (ps : List Pair) → Rising 0 ps → Rising (first_id ps) ps
rising_here [] r = tt
rising_here (p ∷ ps) r = (omega arith, r.1, r.2)
