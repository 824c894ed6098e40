-- Probes by `doc` and `seek`.
use Rattle.std.proofs.Common.{◌≡◌, ℕ, suc, ◌<◌, ◌≤◌, cond, eqb, List, length, sym, refl, ap, ◌∙◌, subst, inl, inr, ⊎_elim, arith}
use Rattle.std.proofs.lemmas.Bool.{cond-true, cond-false, cases_eq, eq-eqb, ne_eqb}
use Rattle.docset.specs.Meaning.{Meaning, Pair, TERM, Steady, Known, calm, first_id, from, Rising}
use Rattle.docset.specs.Calls.{Told, Sought, Probed, ProbedSteady}
use Rattle.docset.specs.declared.docset.SeekDangerResult.{SeekDangerResult}
use Rattle.docset.specs.declared.docset.SeekDangerResult.TheVariants.{Found, SeekLowerBound}
use Rattle.docset.proofs.Lists.{settled, steady_known, from_all, from_shorter, from_least, from_next, has_found, has_beyond, has_missed, probed_id, probed_none}

-- a target that is no id
pub probe_past :
    (t : ℕ) (m : Meaning) → TERM ≤ t → (Known m.mark → Rising 0 m.pairs) → ProbedSteady t m m (SeekLowerBound TERM)
probe_past t m h r =
    record {
      an_id = omega arith;
      shrinks = omega arith;
      answers = λ s.
          record {
            tells = sym (has_beyond t 0 m.pairs (r (steady_known m.mark s)) h);
            leaves = sym (probed_none t m.pairs h);
            marks = steady_known m.mark s;
            bounds = inl refl;
          };
    }

probe_found :
    (t : ℕ) (m n : Meaning) (d : ℕ) → t < TERM → Sought t m n d → d ≡ t → ProbedSteady t m n Found
probe_found t m n d h k e =
    record {
      an_id = tt;
      shrinks = k.shrinks;
      answers = λ s.
          record {
            tells = sym (has_found t m.pairs h (sym (k.tells s) ∙ e));
            leaves = ap (λ (x : Meaning). x.pairs) (k.becomes s) ∙ sym (probed_id t m.pairs h);
            marks = ap (λ (x : Meaning). x.mark) (k.becomes s);
            bounds = tt;
          };
    }

probe_missed :
    (t : ℕ) (m n : Meaning) (d : ℕ) → t < TERM → (Known m.mark → Rising 0 m.pairs) → Sought t m n d →
    (d ≡ t → ⊥) → ProbedSteady t m n (SeekLowerBound d)
probe_missed t m n d h r k e =
    record {
      an_id = k.an_id;
      shrinks = k.shrinks;
      answers = λ s.
          let ne : first_id (from t m.pairs) ≡ t → ⊥ = λ z. e (k.tells s ∙ z) in
          let at : d ≡ first_id (from (suc t) m.pairs) = k.tells s ∙ ap first_id (sym (from_next t m.pairs ne)) in
          record {
            tells = sym (has_missed t 0 m.pairs (r (steady_known m.mark s)) ne);
            leaves = ap (λ (x : Meaning). x.pairs) (k.becomes s) ∙ sym (probed_id t m.pairs h);
            marks = steady_known n.mark (ap (λ (x : Meaning). x.mark) (k.becomes s));
            bounds = inr (omega (arith, from_least t m.pairs (omega arith), k.tells s, e), omega arith);
          };
    }

-- a set that stands at t or later has sought t
pub sought_already : (t : ℕ) (m : Meaning) (d : ℕ) → Told m d → t ≤ d → Sought t m m d
sought_already t m d h k =
    let at : Steady m → m.pairs ≡ from t m.pairs = λ s. sym (from_all t m.pairs (omega (arith, h.tells s))) in
    record {
      an_id = h.an_id;
      shrinks = omega arith;
      becomes = λ s. settled m (from t m.pairs) s (at s);
      tells = λ s. h.tells s ∙ ap first_id (at s);
    }

-- a steady set that now lists what a seek of t leaves, and tells d, has sought t
pub sought_told :
    (t : ℕ) (ps qs : List Pair) (d : ℕ) → from t ps ≡ qs → Told (calm qs) d → Sought t (calm ps) (calm qs) d
sought_told t ps qs d e h =
    record {
      an_id = h.an_id;
      shrinks = subst (λ (l : List Pair). length l ≤ length ps) e (from_shorter t ps);
      becomes = λ _. ap {B = Meaning} (λ (x : List Pair). calm x) (sym e);
      tells = λ _. h.tells refl ∙ ap first_id (sym e);
    }

-- the probe of a set that came to d by seeking t
pub probe_sought :
    (t : ℕ) (m n : Meaning) (d : ℕ) (r : SeekDangerResult) → t < TERM → (Known m.mark → Rising 0 m.pairs) →
    Sought t m n d → r ≡ cond (eqb d t) Found (SeekLowerBound d) → ProbedSteady t m n r
probe_sought t m n d r h k s e =
    ⊎_elim {C = ProbedSteady t m n r}
    (λ q.
    subst (λ (x : SeekDangerResult). ProbedSteady t m n x)
    (sym (e ∙ cond-true (eqb d t) Found (SeekLowerBound d) (eq-eqb d t q))) (probe_found t m n d h s q))
    (λ q.
    subst (λ (x : SeekDangerResult). ProbedSteady t m n x)
    (sym (e ∙ cond-false (eqb d t) Found (SeekLowerBound d) (ne_eqb d t q))) (probe_missed t m n d h k s q))
    (cases_eq d t)

-- a set that is always steady promises its probe on every mark
pub always : (t : ℕ) (m n : Meaning) (r : SeekDangerResult) → Steady m → ProbedSteady t m n r → Probed t m n r
always t m n r s h = record { an_id = h.an_id; shrinks = h.shrinks; answers = λ _. h.answers s }

-- ---- sets that are never astray: steady, or lost and promised nothing

pub probe_lifted :
    (t : ℕ) (m n : Meaning) (r : SeekDangerResult) → (Known m.mark → Steady m) → ProbedSteady t m n r → Probed t m n r
probe_lifted t m n r s h = record { an_id = h.an_id; shrinks = h.shrinks; answers = λ k. h.answers (s k) }

pub lifted_past :
    (t : ℕ) (m : Meaning) (d : ℕ) → (Known m.mark → Steady m) → Told m d → TERM ≤ t → Probed t m m (SeekLowerBound TERM)
lifted_past t m d s u h = probe_lifted t m m (SeekLowerBound TERM) s (probe_past t m h u.rises)
