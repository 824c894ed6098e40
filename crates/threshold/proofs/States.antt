-- The meaning of a threshold, and what its calls make of it.
use Rattle.std.proofs.Common.{◌≡◌, ℕ, suc, ◌+◌, ◌<◌, ◌≤◌, Bool, true, false, cond, ◌&&◌, ◌||◌, ltb, ◌⊎◌, List, [], ◌∷◌, length, replicate, sum_by, sym, refl, ap, ◌∙◌, subst, inl, inr, ⊎_elim, arith}
use lib.Ieee.{Float}
use lib.ListN.{length-replicate}
use Rattle.std.proofs.lemmas.Bool.{lt-ltb, le-ltb, ltb-true, cases_lt, cases_Bool, and_parts, and_from, cond-true, cond-false, both_ways}
use Rattle.docset.specs.Meaning.{Meaning, lost, Pair, TERM, Steady, Known, Rising, calm, rest, first_id, first_score, zero_score}
use Rattle.docset.specs.Calls.{Told, Moved, Probed, ProbedSteady, Scored}
use Rattle.docset.specs.declared.docset.SeekDangerResult.{SeekDangerResult}
use Rattle.docset.proofs.Lists.{steady_known}
use Rattle.combiner.specs.declared.score_combiner.Tally.{Tally}
use Rattle.heap.specs.declared.order.Entry.{Entry}
use Rattle.live.specs.Sets.{passed, lowest_of, all_steady, AllRising, all_rising}
use Rattle.live.specs.Lists.{threshold_list}
use Rattle.live.proofs.Passed.{steady_test, test_steady, rising_test, test_rising, first_rest, passed_high, passed_none, passed_twice, lowest_passed}
use Rattle.live.proofs.Thresholds.{threshold_rises, threshold_none, threshold_short, total}
use Rattle.threshold.specs.Entries.{matches, Ready}
use Rattle.threshold.specs.State.{read_past, fit, standing, means, on, read_to, Comes}
use Rattle.threshold.proofs.Sums.{matched, matching}
use Rattle.threshold.proofs.Tops.{none_top}
use Rattle.threshold.proofs.Groups.{few_entries, sift_few}

-- ---- the test

pub fit_ready : (doc : ℕ) (P : List Meaning) (E : List Entry) → fit doc P E ≡ true → Ready P E × (doc < TERM → doc < lowest_of P)
fit_ready doc P E h =
    let a = and_parts (all_steady P && all_rising P) (read_past doc P && matches 0 P E) h in
    let b = and_parts (all_steady P) (all_rising P) a.0 in
    let c = and_parts (read_past doc P) (matches 0 P E) a.1 in (
      record { steady = test_steady P b.0; rises = test_rising P b.1; counts = matched 0 P E c.1 },
      λ l. ltb-true doc (lowest_of P) (sym (cond-true (ltb doc TERM) (ltb doc (lowest_of P)) true (lt-ltb doc TERM l)) ∙ c.0),
    )

pub ready_fit : (doc : ℕ) (P : List Meaning) (E : List Entry) → Ready P E → (doc < TERM → doc < lowest_of P) → fit doc P E ≡ true
ready_fit doc P E y h =
    and_from _ _ (and_from _ _ (steady_test P y.steady) (rising_test P y.rises))
    (and_from _ _ (⊎_elim
    (λ l. cond-true (ltb doc TERM) (ltb doc (lowest_of P)) true (lt-ltb doc TERM l) ∙ lt-ltb doc (lowest_of P) (h l))
    (λ l. cond-false (ltb doc TERM) (ltb doc (lowest_of P)) true (le-ltb doc TERM l))
    (cases_lt doc TERM)) (matching 0 P E y.counts))

-- ---- the list

module _ (least : ℕ) (step : Tally → Float → Tally) (tell : Tally → Float) (doc : ℕ) (x : Float) (P : List Meaning) where
  pub stands : doc < TERM → standing least step tell doc x P ≡ record { id = doc; score = x } ∷ threshold_list least step tell P
  unfolding standing
  stands l = cond-true (ltb doc TERM) (record { id = doc; score = x } ∷ threshold_list least step tell P) [] (lt-ltb doc TERM l)

  pub ended : TERM ≤ doc → standing least step tell doc x P ≡ []
  unfolding standing
  ended l = cond-false (ltb doc TERM) (record { id = doc; score = x } ∷ threshold_list least step tell P) [] (le-ltb doc TERM l)

  standing_first : doc ≤ TERM → doc ≡ first_id (standing least step tell doc x P)
  standing_first le = ⊎_elim (λ l. ap first_id (sym (stands l))) (λ l. let q : doc ≡ TERM = omega arith in q ∙ ap first_id (sym (ended l))) (cases_lt doc TERM)

  standing_rises : AllRising P → (doc < TERM → doc < lowest_of P) → Rising 0 (standing least step tell doc x P)
  standing_rises r h =
      let F : List Pair → Type 0 = λ ps. Rising 0 ps in
      ⊎_elim
      (λ l. subst F (sym (stands l)) (omega arith, l, threshold_rises least step tell P (suc doc) r (let a = h l in omega arith) (omega arith)))
      (λ l. subst F (sym (ended l)) tt)
      (cases_lt doc TERM)

module _ (least : ℕ) (step : Tally → Float → Tally) (tell : Tally → Float) (doc : ℕ) (x : Float) (E : List Entry) (P : List Meaning) (room : ℕ) where
  pub is_calm : fit doc P E ≡ true → means least step tell doc x E P room ≡ calm (standing least step tell doc x P)
  unfolding means
  is_calm e = cond-true (fit doc P E) (calm (standing least step tell doc x P)) (record { pairs = replicate room (record { id = doc; score = x }); mark = lost }) e

  pub is_lost : fit doc P E ≡ false → means least step tell doc x E P room ≡ record { pairs = replicate room (record { id = doc; score = x }); mark = lost }
  unfolding means
  is_lost e = cond-false (fit doc P E) (calm (standing least step tell doc x P)) (record { pairs = replicate room (record { id = doc; score = x }); mark = lost }) e

  pub lost_length : fit doc P E ≡ false → length (means least step tell doc x E P room).pairs ≡ room
  lost_length e = ap (λ m. length m.pairs) (is_lost e) ∙ length-replicate room (record { id = doc; score = x })

  -- it is never astray
  pub known_fit : Known (means least step tell doc x E P room).mark → fit doc P E ≡ true
  known_fit k = ⊎_elim (λ e. e) (λ e. absurd (subst (λ (m : Meaning). Known m.mark) (is_lost e) k)) (cases_Bool (fit doc P E))

  pub steady_fit : Steady (means least step tell doc x E P room) → fit doc P E ≡ true
  steady_fit s = known_fit (steady_known (means least step tell doc x E P room).mark s)

  pub first_is : doc ≤ TERM → Steady (means least step tell doc x E P room) → doc ≡ first_id (means least step tell doc x E P room).pairs
  first_is le s = standing_first least step tell doc x P le ∙ ap (λ m. first_id m.pairs) (sym (is_calm (steady_fit s)))

  pub told : doc ≤ TERM → Told (means least step tell doc x E P room) doc
  told le = record {
    an_id = le;
    rises = λ k.
        let e = known_fit k in
        let y = fit_ready doc P E e in
        let F : Meaning → Type 0 = λ m. Rising 0 m.pairs in
        subst F (sym (is_calm e)) (standing_rises least step tell doc x P y.0.rises y.1);
    tells = first_is le;
  }

  -- no longer than what a lost one is promised
  pub small : (unread : Bool) (rest_room : ℕ) → room ≡ on doc unread + rest_room → total P ≤ rest_room → length (means least step tell doc x E P room).pairs ≤ room
  small unread rest_room q le = ⊎_elim
      (λ e. ⊎_elim
      (λ l.
      let a = ap (λ m. length m.pairs) (is_calm e) in
      let b = ap length (stands least step tell doc x P l) in
      let c = threshold_short least step tell P in
      let o = on_doc doc unread l in
      omega arith)
      (λ l.
      let a = ap (λ m. length m.pairs) (is_calm e) in
      let b = ap length (ended least step tell doc x P l) in
      omega arith)
      (cases_lt doc TERM))
      (λ e. let a = lost_length e in omega arith)
      (cases_Bool (fit doc P E))
    where
      on_doc : (d : ℕ) (b : Bool) → d < TERM → on d b ≡ 1
      on_doc d b l = let t = lt-ltb d TERM l in rw t

  pub scored : doc ≤ TERM → (doc ≡ TERM → x ≡ zero_score) → Scored (means least step tell doc x E P room) (means least step tell doc x E P room) x
  scored le none = record {
    shrinks = omega arith;
    same = λ s. refl;
    tells = λ s. first_told ∙ ap (λ m. first_score m.pairs) (sym (is_calm (steady_fit s)));
  }
    where
      first_told : x ≡ first_score (standing least step tell doc x P)
      first_told = ⊎_elim
          (λ l. ap first_score (sym (stands least step tell doc x P l)))
          (λ l. none (omega arith) ∙ ap first_score (sym (ended least step tell doc x P l)))
          (cases_lt doc TERM)

  pub probed_over : (t : ℕ) (n : Meaning) (r : SeekDangerResult) → ProbedSteady t (means least step tell doc x E P room) n r → Probed t (means least step tell doc x E P room) n r
  probed_over t n r h = record {
    an_id = h.an_id;
    shrinks = h.shrinks;
    answers = λ k. h.answers (ap (λ m. m.mark) (is_calm (known_fit k)));
  }

  -- nothing more to come
  pub moved_stay : doc ≡ TERM → Moved (means least step tell doc x E P room) (means least step tell doc x E P room) TERM
  moved_stay q = record {
    an_id = omega arith;
    shrinks = omega arith;
    drops = inr refl;
    becomes = λ s.
        let e = steady_fit s in
        is_calm e ∙ ap calm (ended least step tell doc x P (omega arith)) ∙ ap (λ ps. calm (rest ps)) (sym (nothing e));
    tells = λ s. ap (λ ps. first_id (rest ps)) (sym (nothing (steady_fit s)));
  }
    where
      nothing : fit doc P E ≡ true → (means least step tell doc x E P room).pairs ≡ []
      nothing e = ap (λ m. m.pairs) (is_calm e) ∙ ended least step tell doc x P (omega arith)

-- ---- the next document

length_rest : (ps : List Pair) → length (rest ps) ≤ length ps
length_rest [] = omega arith
length_rest (p ∷ ps) = omega arith

on_going : (doc : ℕ) (unread : Bool) → (doc < TERM) ⊎ (unread ≡ true) → on doc unread ≡ 1
on_going doc unread (inl l) = let t = lt-ltb doc TERM l in rw t
on_going doc unread (inr e) = go (ltb doc TERM)
  where
    go : (b : Bool) → cond {A = ℕ} (b || unread) 1 0 ≡ 1
    go true = refl
    go false = ap (λ (b : Bool). cond {A = ℕ} b 1 0) e

-- with fewer entries than are asked for nothing is listed
pub few_none : (least : ℕ) (step : Tally → Float → Tally) (tell : Tally → Float) (P : List Meaning) (E : List Entry) → Ready P E → length E < least → threshold_list least step tell P ≡ []
few_none least step tell P E y l = threshold_none least step tell P (λ d g. sift_few least step P d (let a = few_entries d P E y in omega arith))

-- what was come to fits
pub comes_fit :
    (least : ℕ) (step : Tally → Float → Tally) (tell : Tally → Float) (P Q : List Meaning) (E F : List Entry) (r : ℕ) (x : Float) →
    Comes least step tell P Q E F r x → Ready P E → fit r Q F ≡ true
comes_fit least step tell P Q E F r x c y = ready_fit r Q F (c.ready y) (λ l. let a = lowest_passed (suc r) P (omega arith) in let b = ap lowest_of (c.reads y) in omega arith)

pub comes_calm :
    (least : ℕ) (step : Tally → Float → Tally) (tell : Tally → Float) (P Q : List Meaning) (E F : List Entry) (r : ℕ) (x : Float) (room : ℕ) →
    Comes least step tell P Q E F r x → Ready P E → means least step tell r x F Q room ≡ calm (threshold_list least step tell P)
comes_calm least step tell P Q E F r x room c y = is_calm least step tell r x F Q room (comes_fit least step tell P Q E F r x c y) ∙ ap calm (c.list y)

module _ (least : ℕ) (step : Tally → Float → Tally) (tell : Tally → Float) (doc : ℕ) (x : Float) (E : List Entry) (P : List Meaning) (unread : Bool) (old : ℕ)
    (r : ℕ) (z : Float) (F : List Entry) (Q : List Meaning) (new : ℕ) where
  pub moved_next :
      r ≤ TERM → (unread ≡ true → (doc ≡ TERM) × (length E < least)) → (doc < TERM) ⊎ (unread ≡ true) →
      on r false + new ≤ old → total Q ≤ new → Comes least step tell P Q E F r z →
      Moved (means least step tell doc x E P (on doc unread + old)) (means least step tell r z F Q (on r false + new)) r
  moved_next le waits goes pays tot c = record {
    an_id = le;
    shrinks = ⊎_elim (λ e. shorter e) (λ e. let a = lost_m e in let b = small_n in let o = on_going doc unread goes in omega arith) (cases_Bool (fit doc P E));
    drops = ⊎_elim {C = (length n.pairs < length m.pairs) ⊎ (r ≡ TERM)}
        (λ e. ⊎_elim {C = (length n.pairs < length m.pairs) ⊎ (r ≡ TERM)}
        (λ l. inl (let a = ap (λ q. length q.pairs) (becomes e) in let b = ap (λ q. length q.pairs) (calm_m e) in let d = ap length (stands least step tell doc x P l) in
        let f = ap (λ q. length (rest q.pairs)) (calm_m e) in let g = ap (λ ps. length (rest ps)) (stands least step tell doc x P l) in omega arith))
        (λ u. inr (tells e ∙ ap (λ q. first_id (rest q.pairs)) (calm_m e) ∙ ap (λ ps. first_id (rest ps)) (ended least step tell doc x P (let a = (waits u).0 in omega arith))))
        goes)
        (λ e. inl (let a = lost_m e in let b = small_n in let o = on_going doc unread goes in omega arith))
        (cases_Bool (fit doc P E));
    becomes = λ s. becomes (steady_m s);
    tells = λ s. tells (steady_m s);
  }
    where
      m : Meaning
      m = means least step tell doc x E P (on doc unread + old)

      n : Meaning
      n = means least step tell r z F Q (on r false + new)

      steady_m : Steady (means least step tell doc x E P (on doc unread + old)) → fit doc P E ≡ true
      steady_m = steady_fit least step tell doc x E P (on doc unread + old)

      calm_m : fit doc P E ≡ true → means least step tell doc x E P (on doc unread + old) ≡ calm (standing least step tell doc x P)
      calm_m = is_calm least step tell doc x E P (on doc unread + old)

      lost_m : fit doc P E ≡ false → length (means least step tell doc x E P (on doc unread + old)).pairs ≡ on doc unread + old
      lost_m = lost_length least step tell doc x E P (on doc unread + old)

      small_n : length (means least step tell r z F Q (on r false + new)).pairs ≤ on r false + new
      small_n = small least step tell r z F Q (on r false + new) false new refl tot

      list : fit doc P E ≡ true → threshold_list least step tell P ≡ rest (standing least step tell doc x P)
      list e = ⊎_elim {C = threshold_list least step tell P ≡ rest (standing least step tell doc x P)}
          (λ l. ap rest (sym (stands least step tell doc x P l)))
          (λ u. few_none least step tell P E (fit_ready doc P E e).0 (let a = (waits u).1 in omega arith) ∙ ap rest (sym (ended least step tell doc x P (let a = (waits u).0 in omega arith))))
          goes

      becomes : fit doc P E ≡ true → means least step tell r z F Q (on r false + new) ≡ calm (rest (means least step tell doc x E P (on doc unread + old)).pairs)
      becomes e = comes_calm least step tell P Q E F r z (on r false + new) c (fit_ready doc P E e).0 ∙ ap calm (list e) ∙ ap (λ q. calm (rest q.pairs)) (sym (calm_m e))

      tells : fit doc P E ≡ true → r ≡ first_id (rest (means least step tell doc x E P (on doc unread + old)).pairs)
      tells e =
          first_is least step tell r z F Q (on r false + new) le (ap (λ q. q.mark) (becomes e)) ∙ ap (λ q. first_id q.pairs) (becomes e)

      shorter : fit doc P E ≡ true → length (means least step tell r z F Q (on r false + new)).pairs ≤ length (means least step tell doc x E P (on doc unread + old)).pairs
      shorter e = let a = ap (λ q. length q.pairs) (becomes e) in let b = length_rest (means least step tell doc x E P (on doc unread + old)).pairs in omega arith

-- ---- how far the sets are read

-- sets with nothing left are read to their end
pub read_out : (h : ℕ) (P : List Meaning) (E : List Entry) → Ready P E → E ≡ [] → P ≡ passed h P
read_out h P E y e = sym (passed_none h P (none_top P E y (ap (sum_by (λ x. 1)) e)))

-- the sets stand past the current document
pub read_here : (doc : ℕ) (P : List Meaning) (E : List Entry) (unread : Bool) → doc ≤ TERM → (doc ≡ TERM → unread ≡ false → E ≡ []) → fit doc P E ≡ true → P ≡ read_to unread doc P
read_here doc P E true le h e = refl
read_here doc P E false le h e =
    let y = fit_ready doc P E e in
    ⊎_elim
    (λ l. sym (passed_high (suc doc) P y.0.steady (let a = y.1 l in omega arith)))
    (λ l. read_out (suc doc) P E y.0 (h (omega arith) refl))
    (cases_lt doc TERM)

-- one document further
pub read_next :
    (d r : ℕ) (unread : Bool) (P Q R : List Meaning) → unread ≡ false → d ≤ r → Q ≡ read_to unread d P → R ≡ passed (suc r) Q → R ≡ read_to unread r P
read_next d r true P Q R u le q p = absurd (both_ways true u refl)
read_next d r false P Q R u le q p = p ∙ ap (passed (suc r)) q ∙ passed_twice (suc d) (suc r) P (omega arith)

-- a step goes up
pub goes_up : (m n : Meaning) (d r : ℕ) → Told m d → Moved m n r → Steady m → d ≤ r
goes_up m n d r t v s = let a = first_rest m.pairs (t.rises (steady_known m.mark s)) in let b = t.tells s in let c = v.tells s in omega arith
