-- Required documents beside an optional set.
use Rattle.std.proofs.Common.{◌≡◌, ℕ, suc, ◌<◌, ◌≤◌, Bool, true, ◌&&◌, eqb, ◌⊎◌, List, [], ◌∷◌, Some, None, Option, sym, refl, ap, ◌∙◌, inl, inr, ⊎_elim, arith}
use lib.Ieee.{Float}
use Rattle.std.proofs.lemmas.Bool.{cond-true, cond-false, cases_lt, eq-eqb, ne_eqb, and_parts, and_from}
use Rattle.docset.specs.Meaning.{Meaning, is_steady, Pair, TERM, Steady, calm, first_id, first_score, from, Rising}
use Rattle.docset.specs.Calls.{Told, Moved, Sought, Probed, Filled, Counted, CountedAlive, Scored}
use Rattle.docset.specs.declared.docset.SeekDangerResult.{SeekDangerResult}
use Rattle.docset.proofs.Lists.{steady_known, steady_is, is_then_steady, rising_from, from_lt, from_ge, from_least, rising_here}
use Rattle.std.specs.Option.{option_to_list}
use Rattle.scored.specs.Rescored.{rescored, retold}
use Rattle.scored.specs.Optional.{scores_of, both, same_float, cached, opted, LookedUp}
use Rattle.scored.proofs.Rescored.{length_rescored, told_retold, moved_retold, sought_retold, probed_retold, filled_retold, counted_retold, counted_alive_retold}
use Rattle.scored.proofs.Same.{float_refl}
use Rattle.scored.proofs.Marked.{marked_steady, marked_true, told_marked, moved_marked, sought_marked, probed_marked, filled_marked, counted_marked, counted_alive_marked}

-- ---- the test

abbrev test : (List Float → Float) → Option Float → Meaning → Meaning → Bool
test h k m o = is_steady o.mark && cached k (rescored (both h o.pairs) m.pairs)

-- with no kept score only the optional set is tested, and that is not moved by a call of the required one
cleared : (h : List Float → Float) (k : Option Float) (m n o : Meaning) → test h k m o ≡ true → test h None n o ≡ true
cleared h k m n o e =
    and_from _ _ (and_parts (is_steady o.mark) (cached k (rescored (both h o.pairs) m.pairs)) e).0 refl

optional_steady : (h : List Float → Float) (k : Option Float) (m o : Meaning) → test h k m o ≡ true → Steady o
optional_steady h k m o e =
    is_then_steady o.mark (and_parts (is_steady o.mark) (cached k (rescored (both h o.pairs) m.pairs)) e).0

-- ---- the calls

pub told_opted : (h : List Float → Float) (k : Option Float) (m o : Meaning) (r : ℕ) → Told m r → Told (opted h k m o) r
told_opted h k m o r v = told_marked (test h k m o) _ r (told_retold (both h o.pairs) m r v)

pub moved_opted :
    (h : List Float → Float) (k : Option Float) (m n o : Meaning) (r : ℕ) → Moved m n r →
    Moved (opted h k m o) (opted h None n o) r
moved_opted h k m n o r v =
    moved_marked (test h None n o) (test h k m o) _ _ r (cleared h k m n o) (moved_retold (both h o.pairs) m n r v)

pub sought_opted :
    (h : List Float → Float) (k : Option Float) (t : ℕ) (m n o : Meaning) (r : ℕ) → Sought t m n r →
    Sought t (opted h k m o) (opted h None n o) r
sought_opted h k t m n o r v =
    sought_marked (test h None n o) (test h k m o) t _ _ r (cleared h k m n o) (sought_retold (both h o.pairs) t m n r v)

pub probed_opted :
    (h : List Float → Float) (k : Option Float) (t : ℕ) (m n o : Meaning) (r : SeekDangerResult) → Probed t m n r →
    Probed t (opted h k m o) (opted h None n o) r
probed_opted h k t m n o r v =
    probed_marked (test h None n o) (test h k m o) t _ _ r (cleared h k m n o) (probed_retold (both h o.pairs) t m n r v)

pub filled_opted :
    (h : List Float → Float) (k : Option Float) (m n o : Meaning) (old new : List ℕ) (r : ℕ) → Filled m n old new r →
    Filled (opted h k m o) (opted h None n o) old new r
filled_opted h k m n o old new r v =
    filled_marked (test h None n o) (test h k m o) _ _ old new r (cleared h k m n o)
    (filled_retold (both h o.pairs) m n old new r v)

pub counted_opted :
    (h : List Float → Float) (k : Option Float) (m o : Meaning) (r : ℕ) → Counted m r → Counted (opted h k m o) r
counted_opted h k m o r v = counted_marked (test h k m o) _ r (counted_retold (both h o.pairs) m r v)

pub counted_alive_opted :
    (h : List Float → Float) (k : Option Float) (ws : List ℕ) (m o : Meaning) (r : ℕ) → CountedAlive ws m r →
    CountedAlive ws (opted h k m o) r
counted_alive_opted h k ws m o r v =
    counted_alive_marked (test h k m o) ws _ r (counted_alive_retold (both h o.pairs) ws m r v)

-- ---- the look for a score

scores_ne : (d : ℕ) (p : Pair) (ps : List Pair) → (p.id ≡ d → ⊥) → scores_of d (p ∷ ps) ≡ scores_of d ps
scores_ne d p ps n = cond-false (eqb p.id d) (p.score ∷ []) (scores_of d ps) (ne_eqb p.id d n)

scores_below : (d lo : ℕ) (ps : List Pair) → Rising lo ps → d < lo → scores_of d ps ≡ []
scores_below d lo [] r h = refl
scores_below d lo (p ∷ ps) r h =
    scores_ne d p ps (λ z. omega (arith, r.0)) ∙ scores_below d (suc p.id) ps r.2 (omega (arith, r.0))

scores_from : (d x : ℕ) (ps : List Pair) → d ≤ x → scores_of x (from d ps) ≡ scores_of x ps
scores_from d x [] h = refl
scores_from d x (p ∷ ps) h =
    ⊎_elim {C = scores_of x (from d (p ∷ ps)) ≡ scores_of x (p ∷ ps)}
    (λ k. ap (scores_of x) (from_lt d p ps k) ∙ scores_from d x ps h ∙ sym (scores_ne x p ps (λ z. omega arith)))
    (λ k. ap (scores_of x) (from_ge d p ps k))
    (cases_lt p.id d)

scores_first : (d : ℕ) (ps : List Pair) → d < TERM → first_id ps ≡ d → scores_of d ps ≡ first_score ps ∷ []
scores_first d [] h e = absurd (omega arith)
scores_first d (p ∷ ps) h e = cond-true (eqb p.id d) (p.score ∷ []) (scores_of d ps) (eq-eqb p.id d e)

-- the set has passed d
pub look_passed : (d e : ℕ) (o : Meaning) → Told o e → d < e → LookedUp d o o None
look_passed d e o t h =
    record {
      still = λ s. s;
      list = λ s. inl refl;
      finds = λ s.
          scores_below d (first_id o.pairs) o.pairs (rising_here o.pairs (t.rises (steady_known o.mark s)))
          (omega (arith, t.tells s));
    }

sought_still : (t : ℕ) (m n : Meaning) (e : ℕ) → Sought t m n e → Steady m → Steady n
sought_still t m n e h s = ap (λ (x : Meaning). x.mark) (h.becomes s)

pub look_missed : (d c e : ℕ) (o q : Meaning) → d < TERM → Told o c → Sought d o q e → (e ≡ d → ⊥) → LookedUp d o q None
look_missed d c e o q lt t h ne =
    record {
      still = sought_still d o q e h;
      list = λ s. inr (ap (λ (x : Meaning). x.pairs) (h.becomes s));
      finds = λ s.
          let at : Rising 0 (from d o.pairs) = rising_from d 0 o.pairs (t.rises (steady_known o.mark s)) in
          sym (scores_from d d o.pairs (omega arith)) ∙
          scores_below d (first_id (from d o.pairs)) (from d o.pairs) (rising_here (from d o.pairs) at)
          (omega (arith, from_least d o.pairs (omega arith), h.tells s, ne));
    }

pub look_found :
    (d e : ℕ) (o q w : Meaning) (x : Float) → d < TERM → Sought d o q e → e ≡ d → Scored q w x → LookedUp d o w (Some x)
look_found d e o q w x lt h z c =
    let still : Steady o → Steady q = sought_still d o q e h in
    let lands : Steady o → w ≡ calm (from d o.pairs) = λ s. c.same (still s) ∙ h.becomes s in
    record {
      still = λ s. ap (λ (y : Meaning). y.mark) (lands s);
      list = λ s. inr (ap (λ (y : Meaning). y.pairs) (lands s));
      finds = λ s.
          let is : x ≡ first_score (from d o.pairs) = c.tells (still s) ∙ ap (λ (y : Meaning). first_score y.pairs) (h.becomes s) in
          sym (scores_from d d o.pairs (omega arith)) ∙
          scores_first d (from d o.pairs) lt (sym (h.tells s) ∙ z) ∙ ap (λ (y : Float). y ∷ []) (sym is);
    }

-- ---- the score

-- from d on the optional scores are as they were
rescored_same :
    (h : List Float → Float) (qs rs ps : List Pair) (lo d : ℕ) → Rising lo ps → d ≤ lo → (qs ≡ rs) ⊎ (qs ≡ from d rs) →
    rescored (both h qs) ps ≡ rescored (both h rs) ps
rescored_same h qs rs [] lo d r l e = refl
rescored_same h qs rs (p ∷ ps) lo d r l e =
    let same : scores_of p.id qs ≡ scores_of p.id rs =
    ⊎_elim (λ k. ap (scores_of p.id) k)
    (λ k. ap (scores_of p.id) k ∙ scores_from d p.id rs (omega (arith, r.0))) e in
    let more : rescored (both h qs) ps ≡ rescored (both h rs) ps = rescored_same h qs rs ps (suc p.id) d r.2 (omega (arith, r.0)) e in
    ap (λ (x : List Float). put p.id (h (p.score ∷ x)) (rescored (both h qs) ps)) same ∙
    ap (λ (x : List Pair). put p.id (both h rs p) x) more
  where
    put : ℕ → Float → List Pair → List Pair
    put i x r = record { id = i; score = x } ∷ r

first_both :
    (h : List Float → Float) (qs ps : List Pair) → (first_id ps ≡ TERM → ⊥) →
    first_score (rescored (both h qs) ps) ≡ h (first_score ps ∷ scores_of (first_id ps) qs)
first_both h qs [] n = absurd (n refl)
first_both h qs (p ∷ ps) n = refl

-- a score that was made and is now kept
pub score_made :
    (h : List Float → Float) (k : Option Float) (m n o q : Meaning) (d : ℕ) (x s : Float) (y : Option Float) → k ≡ None →
    Told m d → (d ≡ TERM → ⊥) → Scored m n x → LookedUp d o q y → s ≡ h (x ∷ option_to_list y) →
    Scored (opted h k m o) (opted h (Some s) n q) s
score_made h k m n o q d x s y z t ne c l e =
    let f : Pair → Float = both h o.pairs in
    let g : Pair → Float = both h q.pairs in
    let below : Steady (opted h k m o) → Steady m = λ u. (marked_steady (test h k m o) (retold f m) u).1 in
    let sound : Steady (opted h k m o) → test h k m o ≡ true = λ u. (marked_steady (test h k m o) (retold f m) u).0 in
    let beside : Steady (opted h k m o) → Steady o = λ u. optional_steady h k m o (sound u) in
    let value : Steady (opted h k m o) → s ≡ first_score (rescored f m.pairs) =
    λ u.
    e ∙ ap (λ (v : Float). h (v ∷ option_to_list y)) (c.tells (below u)) ∙
    ap (λ (v : List Float). h (first_score m.pairs ∷ v))
    (sym (l.finds (beside u)) ∙ ap (λ (i : ℕ). scores_of i o.pairs) (t.tells (below u))) ∙
    sym (first_both h o.pairs m.pairs (λ v. ne (t.tells (below u) ∙ v))) in
    let list : Steady (opted h k m o) → retold g n ≡ retold f m =
    λ u.
    ap (retold g) (c.same (below u)) ∙
    ap {B = Meaning} (λ (ps : List Pair). record { pairs = ps; mark = m.mark })
    (rescored_same h q.pairs o.pairs m.pairs (first_id m.pairs) d
    (rising_here m.pairs (t.rises (steady_known m.mark (below u)))) (omega (arith, t.tells (below u))) (l.list (beside u))) in
    record {
      shrinks = omega (arith, c.shrinks, length_rescored g n.pairs, length_rescored f m.pairs);
      same = λ u.
          let kept : same_float s (first_score (rescored g n.pairs)) ≡ true =
          ap (λ (v : Float). same_float s v) (ap (λ (v : Meaning). first_score v.pairs) (list u) ∙ sym (value u)) ∙ float_refl s in
          marked_true (test h (Some s) n q) (retold g n) (and_from _ _ (steady_is q.mark (l.still (beside u))) kept) ∙
          list u ∙ sym (marked_true (test h k m o) (retold f m) (sound u));
      tells = value;
    }
