-- Ranges of numbers that pass a test: their ends, their steps, their order, and what a seek leaves of them.
use Rattle.std.proofs.Common.{slice_get, ◌≡◌, ℕ, zero, suc, ◌+◌, ◌-◌, ◌<◌, ◌≤◌, Bool, true, false, cond, ◌⊎◌, List, [], ◌∷◌, length, get_or, take, drop, Some, None, Option, sym, refl, ap, ◌∙◌, subst, inl, inr, ⊎_elim, arith}
use Rattle.docset.specs.Meaning.{TERM, first_id, one_score, ones, from, RisingIds}
use Rattle.docset.proofs.Lists.{from_lt, from_all, lower}
use Rattle.std.proofs.lemmas.Bool.{cases_lt}
use Rattle.leaves.specs.Ranges.{those, between}

-- ---- one number

pub between_end : (f : ℕ → Bool) (lo hi : ℕ) → hi ≤ lo → between f lo hi ≡ []
unfolding those
between_end f lo hi h = let e : hi - lo ≡ 0 = omega arith in ap (those f lo) e

those_hit : (f : ℕ → Bool) (lo n : ℕ) → f lo ≡ true → those f lo (suc n) ≡ lo ∷ those f (suc lo) n
unfolding those
those_hit f lo n e = ap (λ (b : Bool). cond b (lo ∷ those f (suc lo) n) (those f (suc lo) n)) e

those_miss : (f : ℕ → Bool) (lo n : ℕ) → f lo ≡ false → those f lo (suc n) ≡ those f (suc lo) n
unfolding those
those_miss f lo n e = ap (λ (b : Bool). cond b (lo ∷ those f (suc lo) n) (those f (suc lo) n)) e

-- the numbers left after lo
after_first : (lo hi : ℕ) → lo < hi → hi - lo ≡ suc (hi - suc lo)
after_first lo hi h = omega arith

pub between_hit : (f : ℕ → Bool) (lo hi : ℕ) → lo < hi → f lo ≡ true → between f lo hi ≡ lo ∷ between f (suc lo) hi
between_hit f lo hi h e = ap (those f lo) (after_first lo hi h) ∙ those_hit f lo (hi - suc lo) e

pub between_miss : (f : ℕ → Bool) (lo hi : ℕ) → lo < hi → f lo ≡ false → between f lo hi ≡ between f (suc lo) hi
between_miss f lo hi h e = ap (those f lo) (after_first lo hi h) ∙ those_miss f lo (hi - suc lo) e

-- a number that does not pass may be left out, wherever the range ends
pub between_pass : (f : ℕ → Bool) (lo hi : ℕ) → f lo ≡ false → between f lo hi ≡ between f (suc lo) hi
between_pass f lo hi e =
    ⊎_elim {C = between f lo hi ≡ between f (suc lo) hi}
    (λ h. between_miss f lo hi h e)
    (λ h. between_end f lo hi h ∙ sym (between_end f (suc lo) hi (omega arith)))
    (cases_lt lo hi)

-- numbers that do not pass may be left out
skips : (f : ℕ → Bool) (lo n hi : ℕ) → ((k : ℕ) → lo ≤ k → k < lo + n → f k ≡ false) → between f lo hi ≡ between f (lo + n) hi
skips f lo zero hi h = let e : lo + 0 ≡ lo = omega arith in ap (λ (x : ℕ). between f x hi) (sym e)
skips f lo (suc n) hi h =
    let e : suc lo + n ≡ lo + suc n = omega arith in
    between_pass f lo hi (h lo (omega arith) (omega arith)) ∙
    skips f (suc lo) n hi (λ k a b. h k (omega arith) (omega arith)) ∙
    ap (λ (x : ℕ). between f x hi) e

pub between_skip :
    (f : ℕ → Bool) (lo t hi : ℕ) → lo ≤ t → ((k : ℕ) → lo ≤ k → k < t → f k ≡ false) → between f lo hi ≡ between f t hi
between_skip f lo t hi l h =
    let e : lo + (t - lo) ≡ t = omega arith in
    skips f lo (t - lo) hi (λ k a b. h k a (omega arith)) ∙ ap (λ (x : ℕ). between f x hi) e

-- no number passes
pub between_none : (f : ℕ → Bool) (lo hi : ℕ) → ((k : ℕ) → lo ≤ k → f k ≡ false) → between f lo hi ≡ []
between_none f lo hi h =
    ⊎_elim {C = between f lo hi ≡ []}
    (λ l. between_skip f lo hi hi (omega arith) (λ k a b. h k a) ∙ between_end f hi hi (omega arith))
    (λ l. between_end f lo hi l)
    (cases_lt lo hi)

-- ---- order

step_rises :
    (f : ℕ → Bool) (lo n : ℕ) (b : Bool) → (f lo ≡ true → lo < TERM) → f lo ≡ b → RisingIds (suc lo) (those f (suc lo) n) →
    RisingIds lo (those f lo (suc n))
step_rises f lo n true s e r = subst (λ (l : List ℕ). RisingIds lo l) (sym (those_hit f lo n e)) (omega arith, s e, r)
step_rises f lo n false s e r =
    subst (λ (l : List ℕ). RisingIds lo l) (sym (those_miss f lo n e)) (lower lo (suc lo) (those f (suc lo) n) (omega arith) r)

those_rises :
    (f : ℕ → Bool) (lo n : ℕ) → ((k : ℕ) → k < lo + n → f k ≡ true → k < TERM) → RisingIds lo (those f lo n)
unfolding those
those_rises f lo zero s = tt
those_rises f lo (suc n) s =
    step_rises f lo n (f lo) (λ e. s lo (omega arith) e) refl (those_rises f (suc lo) n (λ k h e. s k (omega arith) e))

pub between_rises :
    (f : ℕ → Bool) (lo hi : ℕ) → ((k : ℕ) → k < hi → f k ≡ true → k < TERM) → RisingIds lo (between f lo hi)
between_rises f lo hi s =
    ⊎_elim {C = RisingIds lo (between f lo hi)}
    (λ h. those_rises f lo (hi - lo) (λ k l e. s k (omega arith) e))
    (λ h. subst (λ (l : List ℕ). RisingIds lo l) (sym (between_end f lo hi h)) tt)
    (cases_lt lo hi)

pub between_rises_0 :
    (f : ℕ → Bool) (lo hi : ℕ) → ((k : ℕ) → k < hi → f k ≡ true → k < TERM) → RisingIds 0 (between f lo hi)
between_rises_0 f lo hi s = lower 0 lo (between f lo hi) (omega arith) (between_rises f lo hi s)

-- ---- what a seek leaves

step_from :
    (f : ℕ → Bool) (t lo hi : ℕ) (b : Bool) → lo < t → f lo ≡ b →
    from t (ones (between f lo hi)) ≡ from t (ones (between f (suc lo) hi))
step_from f t lo hi true h e =
    ⊎_elim {C = from t (ones (between f lo hi)) ≡ from t (ones (between f (suc lo) hi))}
    (λ l.
    ap (λ (x : List ℕ). from t (ones x)) (between_hit f lo hi l e) ∙
    from_lt t (record { id = lo; score = one_score }) (ones (between f (suc lo) hi)) h)
    (λ l. ap (λ (x : List ℕ). from t (ones x)) (between_end f lo hi l ∙ sym (between_end f (suc lo) hi (omega arith))))
    (cases_lt lo hi)
step_from f t lo hi false h e = ap (λ (x : List ℕ). from t (ones x)) (between_pass f lo hi e)

steps_from :
    (f : ℕ → Bool) (lo n hi : ℕ) → from (lo + n) (ones (between f lo hi)) ≡ from (lo + n) (ones (between f (lo + n) hi))
steps_from f lo zero hi =
    let e : lo + 0 ≡ lo = omega arith in ap (λ (x : ℕ). from (lo + 0) (ones (between f x hi))) (sym e)
steps_from f lo (suc n) hi =
    let e : suc lo + n ≡ lo + suc n = omega arith in
    step_from f (lo + suc n) lo hi (f lo) (omega arith) refl ∙
    subst (λ (x : ℕ). from x (ones (between f (suc lo) hi)) ≡ from x (ones (between f x hi))) e (steps_from f (suc lo) n hi)

-- it begins at lo or later
pub first_least : (lo : ℕ) (xs : List ℕ) → lo ≤ TERM → RisingIds lo xs → lo ≤ first_id (ones xs)
first_least lo [] l r = l
first_least lo (x ∷ xs) l r = r.0

-- a seek of t leaves the numbers from t on
pub from_between :
    (f : ℕ → Bool) (lo t hi : ℕ) → lo ≤ t → ((k : ℕ) → k < hi → f k ≡ true → k < TERM) →
    from t (ones (between f lo hi)) ≡ ones (between f t hi)
from_between f lo t hi l s =
    let e : lo + (t - lo) ≡ t = omega arith in
    let a : from t (ones (between f lo hi)) ≡ from t (ones (between f t hi)) =
    subst (λ (x : ℕ). from x (ones (between f lo hi)) ≡ from x (ones (between f x hi))) e (steps_from f lo (t - lo) hi) in
    a ∙ all_left t (between f t hi) (between_rises f t hi s)
  where
    all_left : (t : ℕ) (xs : List ℕ) → RisingIds t xs → from t (ones xs) ≡ ones xs
    all_left t [] r = refl
    all_left t (x ∷ xs) r = from_all t (ones (x ∷ xs)) r.0

-- ---- the first that passes

-- x is the first number from lo on and below hi that passes
pub record First (f : ℕ → Bool) (lo hi x : ℕ) : Type 0 where
  pub low : lo ≤ x
  pub high : x < hi
  pub passes : f x ≡ true
  pub before : (k : ℕ) → lo ≤ k → k < x → f k ≡ false

pub first_between : (f : ℕ → Bool) (lo hi x : ℕ) → First f lo hi x → between f lo hi ≡ x ∷ between f (suc x) hi
first_between f lo hi x h = between_skip f lo x hi h.low h.before ∙ between_hit f x hi h.high h.passes

-- the same, cut where it passes
pub first_cut : (f : ℕ → Bool) (lo hi x : ℕ) → First f lo hi x → between f lo hi ≡ between f x hi
first_cut f lo hi x h = between_skip f lo x hi h.low h.before

pub first_is : (f : ℕ → Bool) (lo hi x : ℕ) → First f lo hi x → slice_get (between f lo hi) 0 ≡ Some x
first_is f lo hi x h = ap (λ (l : List ℕ). slice_get l 0) (first_between f lo hi x h)

pub none_is : (f : ℕ → Bool) (lo hi : ℕ) → ((k : ℕ) → lo ≤ k → k < hi → f k ≡ false) → slice_get (between f lo hi) 0 ≡ None
none_is f lo hi h =
    ⊎_elim {C = slice_get (between f lo hi) 0 ≡ None}
    (λ l. ap (λ (l : List ℕ). slice_get l 0) (between_skip f lo hi hi (omega arith) h ∙ between_end f hi hi (omega arith)))
    (λ l. ap (λ (l : List ℕ). slice_get l 0) (between_end f lo hi l))
    (cases_lt lo hi)

-- and back: what the first tells of the range
at_or_above : (lo k : ℕ) → lo ≤ k → (k ≡ lo) ⊎ (suc lo ≤ k)
at_or_above lo k h = ⊎_elim (λ l. inr l) (λ l. inl (omega arith)) (cases_lt lo k)

none_step :
    (f : ℕ → Bool) (lo n : ℕ) (b : Bool) → f lo ≡ b → slice_get (those f lo (suc n)) 0 ≡ None →
    (f lo ≡ false) × (slice_get (those f (suc lo) n) 0 ≡ None)
none_step f lo n true e h = cc (sym (ap (λ (l : List ℕ). slice_get l 0) (those_hit f lo n e)) ∙ h)
none_step f lo n false e h = (e, sym (ap (λ (l : List ℕ). slice_get l 0) (those_miss f lo n e)) ∙ h)

none_those : (f : ℕ → Bool) (lo n : ℕ) → slice_get (those f lo n) 0 ≡ None → (k : ℕ) → lo ≤ k → k < lo + n → f k ≡ false
none_those f lo zero e k a b = absurd (omega arith)
none_those f lo (suc n) e k a b =
    let s = none_step f lo n (f lo) refl e in
    ⊎_elim {C = f k ≡ false}
    (λ z. ap f z ∙ s.0)
    (λ z. none_those f (suc lo) n s.1 k z (omega arith))
    (at_or_above lo k a)

pub none_between : (f : ℕ → Bool) (lo hi : ℕ) → slice_get (between f lo hi) 0 ≡ None → (k : ℕ) → lo ≤ k → k < hi → f k ≡ false
none_between f lo hi e k a b = none_those f lo (hi - lo) e k a (omega arith)

later : (f : ℕ → Bool) (lo hi x : ℕ) → f lo ≡ false → First f (suc lo) hi x → First f lo hi x
later f lo hi x e h =
    record {
      low = omega (arith, h.low);
      high = h.high;
      passes = h.passes;
      before = λ k a b. ⊎_elim {C = f k ≡ false} (λ z. ap f z ∙ e) (λ z. h.before k z b) (at_or_above lo k a);
    }

some_those : (f : ℕ → Bool) (lo n x : ℕ) → slice_get (those f lo n) 0 ≡ Some x → First f lo (lo + n) x
unfolding those
some_those f lo zero x e = cc
some_those f lo (suc n) x e = some_step (f lo) refl (some_those f (suc lo) n x)
  where
    some_step :
        (b : Bool) → f lo ≡ b → (slice_get (those f (suc lo) n) 0 ≡ Some x → First f (suc lo) (suc lo + n) x) →
        First f lo (lo + suc n) x
    some_step true z ih =
        let y : ◌≡◌ {A = Option ℕ} (Some lo) (Some x) = sym (ap (λ (l : List ℕ). slice_get l 0) (those_hit f lo n z)) ∙ e in
        let w : lo ≡ x = cc in
        record {
          low = omega arith;
          high = omega arith;
          passes = sym (ap f w) ∙ z;
          before = λ k a b. absurd (omega arith);
        }
    some_step false z ih =
        let w : suc lo + n ≡ lo + suc n = omega arith in
        subst (λ (hi : ℕ). First f lo hi x) w (later f lo (suc lo + n) x z (ih (sym (ap (λ (l : List ℕ). slice_get l 0) (those_miss f lo n z)) ∙ e)))

pub some_between : (f : ℕ → Bool) (lo hi x : ℕ) → slice_get (between f lo hi) 0 ≡ Some x → First f lo hi x
some_between f lo hi x e =
    ⊎_elim {C = First f lo hi x}
    (λ l.
    let w : lo + (hi - lo) ≡ hi = omega arith in
    subst (λ (y : ℕ). First f lo y x) w (some_those f lo (hi - lo) x e))
    (λ l. cc (sym e ∙ ap (λ (l : List ℕ). slice_get l 0) (between_end f lo hi l)))
    (cases_lt lo hi)

-- ---- runs: all numbers pass

pub run_length : (lo n : ℕ) → length (those (λ _. true) lo n) ≡ n
unfolding those
run_length lo zero = refl
run_length lo (suc n) = ap suc (run_length (suc lo) n)

pub run_at : (lo n i : ℕ) → i < n → get_or (those (λ _. true) lo n) i 0 ≡ lo + i
unfolding those
run_at lo zero i h = absurd (omega arith)
run_at lo (suc n) zero h = omega arith
run_at lo (suc n) (suc i) h = run_at (suc lo) n i (omega arith) ∙ omega arith

pub run_take : (lo n i : ℕ) → i ≤ n → take i (those (λ _. true) lo n) ≡ those (λ _. true) lo i
unfolding those
run_take lo n zero h = refl
run_take lo zero (suc i) h = absurd (omega arith)
run_take lo (suc n) (suc i) h = ap (λ (l : List ℕ). lo ∷ l) (run_take (suc lo) n i (omega arith))

pub run_drop : (lo n i : ℕ) → i ≤ n → drop i (those (λ _. true) lo n) ≡ those (λ _. true) (lo + i) (n - i)
unfolding those
run_drop lo n zero h =
    let a : lo + 0 ≡ lo = omega arith in
    let b : n - 0 ≡ n = omega arith in
    sym (ap (λ (x : ℕ). those (λ _. true) x (n - 0)) a ∙ ap (those (λ _. true) lo) b)
run_drop lo zero (suc i) h = absurd (omega arith)
run_drop lo (suc n) (suc i) h =
    let a : suc lo + i ≡ lo + suc i = omega arith in
    let b : suc n - suc i ≡ n - i = omega arith in
    run_drop (suc lo) n i (omega arith) ∙
    ap (λ (x : ℕ). those (λ _. true) x (n - i)) a ∙
    sym (ap (those (λ _. true) (lo + suc i)) b)
