-- Several sets: the tests, one set changed, and what is left past an id.
use Rattle.std.proofs.Common.{◌≡◌, ℕ, zero, suc, ◌<◌, ◌≤◌, true, List, [], ◌∷◌, length, set, sym, refl, ap, ◌∙◌, ⊎_elim, arith}
use Rattle.std.proofs.lemmas.Bool.{cases_lt, and_parts, and_from}
use Rattle.docset.specs.Meaning.{Meaning, Pair, TERM, Steady, Rising, is_steady, rises_from, calm, rest, from, first_id}
use Rattle.docset.proofs.Lists.{settled, steady_is, is_then_steady, rising_is, is_then_rising, rising_from, from_lt, from_ge, from_all, from_rest, from_least}
use Rattle.bank.specs.Places.{at}
use Rattle.live.specs.Sets.{empty, passed, lowest_of, AllSteady, all_steady, AllRising, all_rising}

-- ---- tests

pub steady_test : (ms : List Meaning) → AllSteady ms → all_steady ms ≡ true
steady_test [] h = refl
steady_test (m ∷ ms) h = and_from _ _ (steady_is m.mark h.0) (steady_test ms h.1)

pub test_steady : (ms : List Meaning) → all_steady ms ≡ true → AllSteady ms
test_steady [] h = tt
test_steady (m ∷ ms) h =
    let a = and_parts (is_steady m.mark) (all_steady ms) h in (is_then_steady m.mark a.0, test_steady ms a.1)

pub rising_test : (ms : List Meaning) → AllRising ms → all_rising ms ≡ true
rising_test [] h = refl
rising_test (m ∷ ms) h = and_from _ _ (rising_is 0 m.pairs h.0) (rising_test ms h.1)

pub test_rising : (ms : List Meaning) → all_rising ms ≡ true → AllRising ms
test_rising [] h = tt
test_rising (m ∷ ms) h =
    let a = and_parts (rises_from 0 m.pairs) (all_rising ms) h in (is_then_rising 0 m.pairs a.0, test_rising ms a.1)

-- ---- one set changed

pub rising_at : (ms : List Meaning) (k : ℕ) → AllRising ms → Rising 0 (at ms k).pairs
rising_at [] k h = tt
rising_at (m ∷ ms) zero h = h.0
rising_at (m ∷ ms) (suc k) h = rising_at ms k h.1

pub steady_set : (ms : List Meaning) (k : ℕ) (n : Meaning) → AllSteady ms → Steady n → AllSteady (set ms k n)
steady_set [] k n h s = tt
steady_set (m ∷ ms) zero n h s = (s, h.1)
steady_set (m ∷ ms) (suc k) n h s = (h.0, steady_set ms k n h.1 s)

pub rising_set : (ms : List Meaning) (k : ℕ) (n : Meaning) → AllRising ms → Rising 0 n.pairs → AllRising (set ms k n)
rising_set [] k n h s = tt
rising_set (m ∷ ms) zero n h s = (s, h.1)
rising_set (m ∷ ms) (suc k) n h s = (h.0, rising_set ms k n h.1 s)

-- ---- the lowest id

pub lowest_at : (ms : List Meaning) (k : ℕ) → lowest_of ms ≤ first_id (at ms k).pairs
lowest_at [] k = omega arith
lowest_at (m ∷ ms) zero = omega arith
lowest_at (m ∷ ms) (suc k) = let h = lowest_at ms k in omega arith

pub lowest_bound : (ms : List Meaning) (d : ℕ) → d ≤ TERM → ((k : ℕ) → k < length ms → d ≤ first_id (at ms k).pairs) → d ≤ lowest_of ms
lowest_bound [] d le h = le
lowest_bound (m ∷ ms) d le h = let a = h 0 (omega arith) in let b = lowest_bound ms d le (λ k l. h (suc k) (omega arith)) in omega arith

pub first_rest : (ps : List Pair) → Rising 0 ps → first_id ps ≤ first_id (rest ps)
first_rest [] r = omega arith
first_rest (p ∷ ps) r = next ps r.1 r.2
  where
    next : (qs : List Pair) → p.id < TERM → Rising (suc p.id) qs → p.id ≤ first_id qs
    next [] l h = omega arith
    next (q ∷ qs) l h = let a = h.0 in omega arith

-- a step at one place
pub lowest_step_up : (ms : List Meaning) (k : ℕ) → AllRising ms → lowest_of ms ≤ lowest_of (set ms k (calm (rest (at ms k).pairs)))
lowest_step_up [] k r = omega arith
lowest_step_up (m ∷ ms) zero r = let a = first_rest m.pairs r.0 in omega arith
lowest_step_up (m ∷ ms) (suc k) r = let a = lowest_step_up ms k r.1 in omega arith

-- ---- what is left past an id

pub passed_steady : (h : ℕ) (ms : List Meaning) → AllSteady (passed h ms)
passed_steady h [] = tt
passed_steady h (m ∷ ms) = (refl, passed_steady h ms)

pub passed_rising : (h : ℕ) (ms : List Meaning) → AllRising ms → AllRising (passed h ms)
passed_rising h [] r = tt
passed_rising h (m ∷ ms) r = (rising_from h 0 m.pairs r.0, passed_rising h ms r.1)

from_from : (g h : ℕ) (ps : List Pair) → g ≤ h → from h (from g ps) ≡ from h ps
from_from g h [] le = refl
from_from g h (p ∷ ps) le =
    ⊎_elim {C = from h (from g (p ∷ ps)) ≡ from h (p ∷ ps)}
    (λ l. ap (from h) (from_lt g p ps l) ∙ from_from g h ps le ∙ sym (from_lt h p ps (omega arith)))
    (λ l. ap (from h) (from_ge g p ps l))
    (cases_lt p.id g)

pub passed_twice : (g h : ℕ) (ms : List Meaning) → g ≤ h → passed h (passed g ms) ≡ passed h ms
passed_twice g h [] le = refl
passed_twice g h (m ∷ ms) le = let a = from_from g h m.pairs le in let b = passed_twice g h ms le in rw (a, b)

-- nothing is dropped below the lowest id
pub passed_high : (h : ℕ) (ms : List Meaning) → AllSteady ms → h ≤ lowest_of ms → passed h ms ≡ ms
passed_high h [] s le = refl
passed_high h (m ∷ ms) s le =
    let a : calm (from h m.pairs) ≡ m = ap calm (from_all h m.pairs (omega arith)) ∙ sym (settled m m.pairs s.0 refl) in
    let b = passed_high h ms s.1 (omega arith) in
    rw (a, b)

-- nor of sets with nothing left
pub passed_none : (h : ℕ) (ms : List Meaning) → ((k : ℕ) → k < length ms → at ms k ≡ empty) → passed h ms ≡ ms
passed_none h [] e = refl
passed_none h (m ∷ ms) e =
    let a : calm (from h m.pairs) ≡ m = ap (λ x. calm (from h x.pairs)) (e 0 (omega arith)) ∙ sym (e 0 (omega arith)) in
    let b = passed_none h ms (λ k l. e (suc k) (omega arith)) in
    rw (a, b)

pub lowest_passed : (h : ℕ) (ms : List Meaning) → h ≤ TERM → h ≤ lowest_of (passed h ms)
lowest_passed h [] le = le
lowest_passed h (m ∷ ms) le = let a = from_least h m.pairs le in let b = lowest_passed h ms le in omega arith

-- a step past a first id below h
pub passed_step : (h : ℕ) (ms : List Meaning) (k : ℕ) → first_id (at ms k).pairs < h → passed h (set ms k (calm (rest (at ms k).pairs))) ≡ passed h ms
passed_step h [] k l = refl
passed_step h (m ∷ ms) zero l = let a = from_rest h m.pairs l in rw a
passed_step h (m ∷ ms) (suc k) l = ap (λ xs. calm (from h m.pairs) ∷ xs) (passed_step h ms k l)

pub at_passed_sets : (h : ℕ) (ms : List Meaning) (k : ℕ) → at (passed h ms) k ≡ calm (from h (at ms k).pairs)
at_passed_sets h [] k = refl
at_passed_sets h (m ∷ ms) zero = refl
at_passed_sets h (m ∷ ms) (suc k) = at_passed_sets h ms k
