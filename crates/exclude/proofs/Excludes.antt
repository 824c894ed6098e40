-- Lists without the ids of other lists, and sets that leave them out.
use Rattle.std.proofs.Common.{◌≡◌, ℕ, suc, ◌<◌, ◌≤◌, Bool, true, false, cond, ◌&&◌, eqb, ◌⊎◌, List, [], ◌∷◌, length, sym, refl, ap, ◌∙◌, subst, inl, inr, ⊎_elim, arith}
use lib.Ieee.{Float}
use Rattle.std.proofs.lemmas.Bool.{cond-true, cond-false, cases_lt, cases_Bool, and_parts, and_from, not-true, not_from_false}
use Rattle.docset.specs.Meaning.{Meaning, Mark, is_steady, lost, Pair, TERM, Steady, Known, calm, ids, first_id, first_score, rest, from, Rising, rises_from}
use Rattle.docset.specs.Calls.{Told, Moved, Sought, Probed, ProbedSteady, Scored}
use Rattle.docset.specs.declared.docset.SeekDangerResult.{SeekDangerResult}
use Rattle.docset.specs.declared.docset.SeekDangerResult.TheVariants.{Found, SeekLowerBound}
use Rattle.docset.proofs.Lists.{steady_known, steady_is, is_then_steady, lower, rising_is, is_then_rising, rising_rest, rising_from, from_lt, from_ge, from_shorter, rising_here}
use Rattle.docset.proofs.Probes.{probe_past, probe_sought}
use Rattle.bank.specs.Holding.{held, AllKnown}
use Rattle.bank.proofs.Probing.{held_later, known_later}
use Rattle.exclude.specs.Excluding.{Asked, without, clear, fit, excluded, Ready, Passed, Skipped}

-- ---- what is left

rising_without : (lo : ℕ) (ms : List Meaning) (ps : List Pair) → Rising lo ps → Rising lo (without ms ps)
rising_without lo ms [] r = tt
rising_without lo ms (p ∷ ps) r =
    let more : Rising (suc p.id) (without ms ps) = rising_without (suc p.id) ms ps r.2 in
    elim (held p.id ms) as (λ (c : Bool). Rising lo (cond c (without ms ps) (p ∷ without ms ps))) [
      | true ↦ lower lo (suc p.id) (ids (without ms ps)) (omega (arith, r.0)) more
      | false ↦ (r.0, r.1, more)
    ]

length_without : (ms : List Meaning) (ps : List Pair) → length (without ms ps) ≤ length ps
length_without ms [] = omega arith
length_without ms (p ∷ ps) =
    let more : length (without ms ps) ≤ length ps = length_without ms ps in
    elim (held p.id ms) as (λ (c : Bool). length (cond c (without ms ps) (p ∷ without ms ps)) ≤ length (p ∷ ps)) [
      | true ↦ omega arith
      | false ↦ omega arith
    ]

clear_cons : (ms : List Meaning) (p : Pair) (ps : List Pair) → clear ms (p ∷ ps) ≡ true → without ms (p ∷ ps) ≡ p ∷ without ms ps
clear_cons ms p ps h =
    cond-false (held p.id ms) (without ms ps) (p ∷ without ms ps) (not-true (held p.id ms) h)

first_without : (ms : List Meaning) (ps : List Pair) → clear ms ps ≡ true → first_id (without ms ps) ≡ first_id ps
first_without ms [] h = refl
first_without ms (p ∷ ps) h = ap first_id (clear_cons ms p ps h)

score_without : (ms : List Meaning) (ps : List Pair) → clear ms ps ≡ true → first_score (without ms ps) ≡ first_score ps
score_without ms [] h = refl
score_without ms (p ∷ ps) h = ap first_score (clear_cons ms p ps h)

rest_without : (ms : List Meaning) (ps : List Pair) → clear ms ps ≡ true → without ms (rest ps) ≡ rest (without ms ps)
rest_without ms [] h = refl
rest_without ms (p ∷ ps) h = sym (ap rest (clear_cons ms p ps h))

-- a first id that is held goes
rest_held :
    (ms : List Meaning) (ps : List Pair) → (first_id ps ≡ TERM → ⊥) → held (first_id ps) ms ≡ true →
    without ms (rest ps) ≡ without ms ps
rest_held ms [] n h = absurd (n refl)
rest_held ms (p ∷ ps) n h = sym (cond-true (held p.id ms) (without ms ps) (p ∷ without ms ps) h)

clear_held : (ms : List Meaning) (ps : List Pair) → held (first_id ps) ms ≡ false → clear ms ps ≡ true
clear_held ms [] h = refl
clear_held ms (p ∷ ps) h = not_from_false (held p.id ms) h

from_later : (t lo : ℕ) (ps : List Pair) → Rising lo ps → t ≤ lo → from t ps ≡ ps
from_later t lo [] r h = refl
from_later t lo (p ∷ ps) r h = from_ge t p ps (omega (arith, r.0))

from_without :
    (t lo : ℕ) (ms : List Meaning) (ps : List Pair) → Rising lo ps → without ms (from t ps) ≡ from t (without ms ps)
from_without t lo ms [] r = refl
from_without t lo ms (p ∷ ps) r =
    ⊎_elim {C = without ms (from t (p ∷ ps)) ≡ from t (without ms (p ∷ ps))}
    (λ k.
    ap (without ms) (from_lt t p ps k) ∙ from_without t (suc p.id) ms ps r.2 ∙
    elim (held p.id ms) as (λ (c : Bool). from t (without ms ps) ≡ from t (cond c (without ms ps) (p ∷ without ms ps))) [
      | true ↦ refl
      | false ↦ sym (from_lt t p (without ms ps) k)
    ])
    (λ k.
    ap (without ms) (from_ge t p ps k) ∙
    elim (held p.id ms) as (λ (c : Bool). cond c (without ms ps) (p ∷ without ms ps) ≡ from t (cond c (without ms ps) (p ∷ without ms ps))) [
      | true ↦ sym (from_later t (suc p.id) (without ms ps) (rising_without (suc p.id) ms ps r.2) (omega (arith, k)))
      | false ↦ sym (from_ge t p (without ms ps) k)
    ])
    (cases_lt p.id t)

-- lists that were asked for d leave out the same from d on
without_asked :
    (d lo : ℕ) (ms ns : List Meaning) (b : Bool) (ps : List Pair) → Asked d ms ns b → AllKnown ms → Rising lo ps → d ≤ lo →
    without ns ps ≡ without ms ps
without_asked d lo ms ns b [] a k r h = refl
without_asked d lo ms ns b (p ∷ ps) a k r h =
    let more : without ns ps ≡ without ms ps = without_asked d (suc p.id) ms ns b ps a k r.2 (omega (arith, r.0)) in
    ap (λ (c : Bool). cond c (without ns ps) (p ∷ without ns ps))
    (held_later d p.id ms ns (omega (arith, r.0)) k a.trims) ∙
    ap (λ (x : List Pair). cond (held p.id ms) x (p ∷ x)) more

-- ---- going past what is excluded

-- the lists were asked for the id at which the set stands
asked_ready : (m : Meaning) (ms ns : List Meaning) (d : ℕ) (b : Bool) → Asked d ms ns b → Ready m ms d → Ready m ns d
asked_ready m ms ns d b a y =
    record { still = y.still; rises = y.rises; known = known_later d ms ns y.known a.trims; tells = y.tells }

asked_same :
    (m : Meaning) (ms ns : List Meaning) (d : ℕ) (b : Bool) → Asked d ms ns b → Ready m ms d →
    without ns m.pairs ≡ without ms m.pairs
asked_same m ms ns d b a y =
    without_asked d (first_id m.pairs) ms ns b m.pairs a y.known (rising_here m.pairs y.rises) (omega (arith, y.tells))

asked_held :
    (m : Meaning) (ms ns : List Meaning) (d : ℕ) (b : Bool) → Asked d ms ns b → Ready m ms d → held (first_id m.pairs) ns ≡ b
asked_held m ms ns d b a y =
    held_later d (first_id m.pairs) ms ns (omega (arith, y.tells)) y.known a.trims ∙
    ap (λ (x : ℕ). held x ms) (sym y.tells) ∙ sym (a.answers y.known)

moved_ready : (m n : Meaning) (ms : List Meaning) (d e : ℕ) → Moved m n e → Ready m ms d → Ready n ms e
moved_ready m n ms d e h y =
    let b : n ≡ calm (rest m.pairs) = h.becomes y.still in
    record {
      still = ap (λ (x : Meaning). x.mark) b;
      rises = subst (λ (x : Meaning). Rising 0 x.pairs) (sym b) (rising_rest m.pairs y.rises);
      known = y.known;
      tells = h.tells y.still ∙ ap (λ (x : Meaning). first_id x.pairs) (sym b);
    }

pub passed_none : (m : Meaning) (ms : List Meaning) (d : ℕ) → d ≤ TERM → Passed m m ms ms d d
passed_none m ms d h = record { an_id = h; shrinks = omega arith; ends = λ e. e; ready = λ y. y; list = λ y. refl }

pub passed_one :
    (m n o : Meaning) (ms ns os : List Meaning) (d c e : ℕ) → Passed m n ms ns d c → (c ≡ TERM → ⊥) → Asked c ns os true →
    Moved n o e → Passed m o ms os d e
passed_one m n o ms ns os d c e p ne a h =
    let at : Ready m ms d → Ready n os c = λ y. asked_ready n ns os c true a (p.ready y) in
    record {
      an_id = h.an_id;
      shrinks = omega (arith, h.shrinks, p.shrinks);
      ends = λ z. absurd (ne (p.ends z));
      ready = λ y. moved_ready n o os c e h (at y);
      list = λ y.
          ap (λ (x : Meaning). without os x.pairs) (h.becomes (at y).still) ∙
          rest_held os n.pairs (λ z. ne ((at y).tells ∙ z)) (asked_held n ns os c true a (p.ready y)) ∙
          asked_same n ns os c true a (p.ready y) ∙ p.list y;
    }

pub skipped_kept :
    (m n : Meaning) (ms ns os : List Meaning) (d c : ℕ) → Passed m n ms ns d c → Asked c ns os false → Skipped m n ms os d c
skipped_kept m n ms ns os d c p a =
    record {
      passed =
          record {
            an_id = p.an_id;
            shrinks = p.shrinks;
            ends = p.ends;
            ready = λ y. asked_ready n ns os c false a (p.ready y);
            list = λ y. asked_same n ns os c false a (p.ready y) ∙ p.list y;
          };
      clears = λ y. clear_held os n.pairs (asked_held n ns os c false a (p.ready y));
    }

-- ---- the exclusion as a set

-- what a steady exclusion rests on
pub record Fit (m : Meaning) (ms : List Meaning) : Type 0 where
  pub ready : Ready m ms (first_id m.pairs)
  pub clears : clear ms m.pairs ≡ true

abbrev unfit : Meaning → Meaning
unfit m = record { pairs = m.pairs; mark = lost }

fit_of : (m : Meaning) (ms : List Meaning) → fit m ms ≡ true → Fit m ms
fit_of m ms h =
    let a = and_parts (is_steady m.mark && rises_from 0 m.pairs) (_ && clear ms m.pairs) h in
    let b = and_parts (is_steady m.mark) (rises_from 0 m.pairs) a.0 in
    let c = and_parts _ (clear ms m.pairs) a.1 in
    record {
      ready =
          record { still = is_then_steady m.mark b.0; rises = is_then_rising 0 m.pairs b.1; known = c.0; tells = refl };
      clears = c.1;
    }

excluded_fit : (m : Meaning) (ms : List Meaning) → Fit m ms → excluded m ms ≡ calm (without ms m.pairs)
excluded_fit m ms f =
    cond-true (fit m ms) (calm (without ms m.pairs)) (unfit m)
    (and_from _ _ (and_from _ _ (steady_is m.mark f.ready.still) (rising_is 0 m.pairs f.ready.rises))
    (and_from _ _ f.ready.known f.clears))

excluded_cases : (m : Meaning) (ms : List Meaning) → Fit m ms ⊎ (excluded m ms ≡ unfit m)
excluded_cases m ms =
    ⊎_elim (λ h. inl (fit_of m ms h)) (λ h. inr (cond-false (fit m ms) (calm (without ms m.pairs)) (unfit m) h))
    (cases_Bool (fit m ms))

known_fit : (m : Meaning) (ms : List Meaning) → Known (excluded m ms).mark → Fit m ms
known_fit m ms k =
    ⊎_elim (λ f. f) (λ e. absurd (subst (λ (x : Mark). Known x) (ap (λ (x : Meaning). x.mark) e) k)) (excluded_cases m ms)

steady_fit : (m : Meaning) (ms : List Meaning) → Steady (excluded m ms) → Fit m ms
steady_fit m ms s = known_fit m ms (steady_known (excluded m ms).mark s)

fit_list : (m : Meaning) (ms : List Meaning) → Fit m ms → (excluded m ms).pairs ≡ without ms m.pairs
fit_list m ms f = ap (λ (x : Meaning). x.pairs) (excluded_fit m ms f)

excluded_short : (m : Meaning) (ms : List Meaning) → length (excluded m ms).pairs ≤ length m.pairs
excluded_short m ms =
    ⊎_elim {C = length (excluded m ms).pairs ≤ length m.pairs}
    (λ f. omega (arith, ap length (fit_list m ms f), length_without ms m.pairs))
    (λ e. omega (arith, ap (λ (x : Meaning). length x.pairs) e))
    (excluded_cases m ms)

excluded_rises : (m : Meaning) (ms : List Meaning) → Known (excluded m ms).mark → Rising 0 (excluded m ms).pairs
excluded_rises m ms k =
    let f = known_fit m ms k in
    subst (λ (x : List Pair). Rising 0 x) (sym (fit_list m ms f)) (rising_without 0 ms m.pairs f.ready.rises)

pub told_over : (m : Meaning) (ms : List Meaning) (d : ℕ) → Told m d → Told (excluded m ms) d
told_over m ms d h =
    record {
      an_id = h.an_id;
      rises = excluded_rises m ms;
      tells = λ s.
          let f = steady_fit m ms s in
          h.tells f.ready.still ∙ sym (first_without ms m.pairs f.clears) ∙ ap first_id (sym (fit_list m ms f));
    }

-- ---- where a walk comes to rest: on a list L

pub record Lands (o : Meaning) (os : List Meaning) (r : ℕ) (L : List Pair) : Type 0 where
  pub fits : Fit o os
  pub tells : r ≡ first_id o.pairs
  pub list : without os o.pairs ≡ L

skipped_lands :
    (m o : Meaning) (ms os : List Meaning) (d r : ℕ) (L : List Pair) → Skipped m o ms os d r → Ready m ms d →
    without ms m.pairs ≡ L → Lands o os r L
skipped_lands m o ms os d r L h y e =
    let z = h.passed.ready y in
    record {
      fits =
          record {
            ready = record { still = z.still; rises = z.rises; known = z.known; tells = refl };
            clears = h.clears y;
          };
      tells = z.tells;
      list = h.passed.list y ∙ e;
    }

lands_on : (o : Meaning) (os : List Meaning) (r : ℕ) (L : List Pair) → Lands o os r L → excluded o os ≡ calm L
lands_on o os r L h = excluded_fit o os h.fits ∙ ap {B = Meaning} (λ (x : List Pair). calm x) h.list

lands_tells : (o : Meaning) (os : List Meaning) (r : ℕ) (L : List Pair) → Lands o os r L → r ≡ first_id L
lands_tells o os r L h = h.tells ∙ sym (first_without os o.pairs h.fits.clears) ∙ ap first_id h.list

-- no call lengthens the list, whatever the mark
over_shrinks :
    (m o : Meaning) (ms os : List Meaning) (r : ℕ) (L : List Pair) → length o.pairs ≤ length m.pairs →
    length L ≤ length (without ms m.pairs) → (Fit m ms → Lands o os r L) →
    length (excluded o os).pairs ≤ length (excluded m ms).pairs
over_shrinks m o ms os r L h k l =
    ⊎_elim {C = length (excluded o os).pairs ≤ length (excluded m ms).pairs}
    (λ f.
    omega (arith, k, ap (λ (x : Meaning). length x.pairs) (lands_on o os r L (l f)), ap length (fit_list m ms f)))
    (λ e. omega (arith, h, excluded_short o os, ap (λ (x : Meaning). length x.pairs) e))
    (excluded_cases m ms)

-- ---- the calls

pub born :
    (m o : Meaning) (ms os : List Meaning) (d r : ℕ) → Told m d → Skipped m o ms os d r → Steady m → AllKnown ms →
    excluded o os ≡ calm (without ms m.pairs)
born m o ms os d r t h s k =
    let y : Ready m ms d =
    record { still = s; rises = t.rises (steady_known m.mark s); known = k; tells = t.tells s } in
    lands_on o os r (without ms m.pairs) (skipped_lands m o ms os d r (without ms m.pairs) h y refl)

length_rest : (ps : List Pair) → length (rest ps) ≤ length ps
length_rest [] = omega arith
length_rest (p ∷ ps) = omega arith

rest_drops : (ps : List Pair) → (length (rest ps) < length ps) ⊎ (first_id (rest ps) ≡ TERM)
rest_drops [] = inr refl
rest_drops (p ∷ ps) = inl (omega arith)

pub moved_over :
    (m n o : Meaning) (ms os : List Meaning) (c r : ℕ) → Moved m n c → Skipped n o ms os c r →
    Moved (excluded m ms) (excluded o os) r
moved_over m n o ms os c r v h =
    let W : List Pair = without ms m.pairs in
    let L : Fit m ms → Lands o os r (rest W) =
    λ f.
    skipped_lands n o ms os c r (rest W) h (moved_ready m n ms (first_id m.pairs) c v f.ready)
    (ap (λ (x : Meaning). without ms x.pairs) (v.becomes f.ready.still) ∙ rest_without ms m.pairs f.clears) in
    let whole : Fit m ms → rest W ≡ rest (excluded m ms).pairs = λ f. ap rest (sym (fit_list m ms f)) in
    let less : length o.pairs ≤ length m.pairs = omega (arith, v.shrinks, h.passed.shrinks) in
    record {
      an_id = h.passed.an_id;
      shrinks = over_shrinks m o ms os r (rest W) less (length_rest W) L;
      drops =
          ⊎_elim {C = (length (excluded o os).pairs < length (excluded m ms).pairs) ⊎ (r ≡ TERM)}
          (λ f.
          ⊎_elim
          (λ k.
          inl
          (omega (arith, k, ap (λ (x : Meaning). length x.pairs) (lands_on o os r (rest W) (L f)), ap length (fit_list m ms f))))
          (λ k. inr (lands_tells o os r (rest W) (L f) ∙ k)) (rest_drops W))
          (λ e.
          ⊎_elim
          (λ k. inl (omega (arith, k, h.passed.shrinks, excluded_short o os, ap (λ (x : Meaning). length x.pairs) e)))
          (λ k. inr (h.passed.ends k)) v.drops)
          (excluded_cases m ms);
      becomes = λ s.
          let f = steady_fit m ms s in
          lands_on o os r (rest W) (L f) ∙ ap {B = Meaning} (λ (x : List Pair). calm x) (whole f);
      tells = λ s. let f = steady_fit m ms s in lands_tells o os r (rest W) (L f) ∙ ap first_id (whole f);
    }

sought_ready : (t : ℕ) (m n : Meaning) (ms : List Meaning) (d e : ℕ) → Sought t m n e → Ready m ms d → Ready n ms e
sought_ready t m n ms d e h y =
    let b : n ≡ calm (from t m.pairs) = h.becomes y.still in
    record {
      still = ap (λ (x : Meaning). x.mark) b;
      rises = subst (λ (x : Meaning). Rising 0 x.pairs) (sym b) (rising_from t 0 m.pairs y.rises);
      known = y.known;
      tells = h.tells y.still ∙ ap (λ (x : Meaning). first_id x.pairs) (sym b);
    }

pub sought_over :
    (t : ℕ) (m n o : Meaning) (ms os : List Meaning) (c r : ℕ) → Sought t m n c → Skipped n o ms os c r →
    Sought t (excluded m ms) (excluded o os) r
sought_over t m n o ms os c r v h =
    let W : List Pair = without ms m.pairs in
    let L : Fit m ms → Lands o os r (from t W) =
    λ f.
    skipped_lands n o ms os c r (from t W) h (sought_ready t m n ms (first_id m.pairs) c v f.ready)
    (ap (λ (x : Meaning). without ms x.pairs) (v.becomes f.ready.still) ∙
    from_without t 0 ms m.pairs f.ready.rises) in
    let whole : Fit m ms → from t W ≡ from t (excluded m ms).pairs = λ f. ap (from t) (sym (fit_list m ms f)) in
    let less : length o.pairs ≤ length m.pairs = omega (arith, v.shrinks, h.passed.shrinks) in
    record {
      an_id = h.passed.an_id;
      shrinks = over_shrinks m o ms os r (from t W) less (from_shorter t W) L;
      becomes = λ s.
          let f = steady_fit m ms s in
          lands_on o os r (from t W) (L f) ∙ ap {B = Meaning} (λ (x : List Pair). calm x) (whole f);
      tells = λ s. let f = steady_fit m ms s in lands_tells o os r (from t W) (L f) ∙ ap first_id (whole f);
    }

-- an exclusion is never astray
probed_over :
    (t : ℕ) (m : Meaning) (ms : List Meaning) (n : Meaning) (r : SeekDangerResult) → ProbedSteady t (excluded m ms) n r →
    Probed t (excluded m ms) n r
probed_over t m ms n r h =
    record {
      an_id = h.an_id;
      shrinks = h.shrinks;
      answers = λ k. h.answers (ap (λ (y : Meaning). y.mark) (excluded_fit m ms (known_fit m ms k)));
    }

pub probed_by_seek :
    (t : ℕ) (m : Meaning) (ms : List Meaning) (n : Meaning) (d : ℕ) (r : SeekDangerResult) → t < TERM →
    Sought t (excluded m ms) n d → r ≡ cond (eqb d t) Found (SeekLowerBound d) → Probed t (excluded m ms) n r
probed_by_seek t m ms n d r h v e =
    probed_over t m ms n r (probe_sought t (excluded m ms) n d r h (excluded_rises m ms) v e)

pub probed_past :
    (t : ℕ) (m : Meaning) (ms : List Meaning) → TERM ≤ t → Probed t (excluded m ms) (excluded m ms) (SeekLowerBound TERM)
probed_past t m ms h =
    probed_over t m ms (excluded m ms) (SeekLowerBound TERM) (probe_past t (excluded m ms) h (excluded_rises m ms))

pub scored_over :
    (m n : Meaning) (ms : List Meaning) (x : Float) → Scored m n x → Scored (excluded m ms) (excluded n ms) x
scored_over m n ms x h =
    record {
      shrinks =
          ⊎_elim {C = length (excluded n ms).pairs ≤ length (excluded m ms).pairs}
          (λ f. omega (arith, ap (λ (y : Meaning). length (excluded y ms).pairs) (h.same f.ready.still)))
          (λ e. omega (arith, h.shrinks, excluded_short n ms, ap (λ (y : Meaning). length y.pairs) e))
          (excluded_cases m ms);
      same = λ s. ap (λ (y : Meaning). excluded y ms) (h.same (steady_fit m ms s).ready.still);
      tells = λ s.
          let f = steady_fit m ms s in
          h.tells f.ready.still ∙ sym (score_without ms m.pairs f.clears) ∙ ap first_score (sym (fit_list m ms f));
    }
