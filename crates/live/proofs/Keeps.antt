use Rattle.std.proofs.Common.{not, nat_eq, ◌≡◌, ℕ, zero, suc, ◌+◌, ◌<◌, ◌≤◌, min, Bool, true, false, cond, ltb, ◌⊎◌, List, [], ◌∷◌, length, get_or, drop, set, replicate, sym, refl, ap, ◌∙◌, subst, inl, inr, ⊎_elim, add-one, arith, below_more, ltb-false, ltb-true}
use lib.Ieee.{Float}
use denote.Param.Members.{Mut}
use Rattle.std.specs.Fn.{Called}
use Rattle.std.specs.Array.{IsFromFnResult, IsFromFnResultFrom}
use lib.ListN.{length-replicate, get_or-replicate}
use Rattle.std.proofs.lemmas.List.{get_or_past, set-get_or}
use Rattle.std.proofs.Math.Seq.{drop-nil}
use Rattle.docset.specs.Meaning.{Meaning, Pair, Steady, steady, lost, Known, Rising, TERM, calm, rest, from, first_id, first_score, zero_score}
use Rattle.docset.specs.Calls.{Told, Moved, Sought, Scored}
use Rattle.bank.specs.Places.{Rows, at, Elsewhere}
use Rattle.live.specs.Sets.{empty, lowest_of, AllSteady, AllRising, passed, part}
use Rattle.live.specs.Kept.{kept, awake, none_left, due, due_of, live_at}
use Rattle.live.specs.Views.{left, awaited, Advances, Scores, Sent}
use Rattle.live.specs.declared.live.Live.{Live}
use Rattle.docset.proofs.Lists.{ended, rising_rest, rising_from, steady_known, settled}
use Rattle.std.proofs.lemmas.Bool.{cases_lt, eqb-true, eqb-false}

pub set_at : (ms : List Meaning) (i : ℕ) → ms ≡ set ms i (at ms i)
set_at ms i = sym (set-get_or ms i empty)

pub at_kept : (bs : List Bool) (ms : List Meaning) (k : ℕ) → at (kept bs ms) k ≡ cond (get_or bs k false) (awake (at ms k)) empty
at_kept [] ms k = refl
at_kept (b ∷ bs) [] zero = refl
at_kept (b ∷ bs) [] (suc k) = at_kept bs [] k
at_kept (b ∷ bs) (m ∷ ms) zero = refl
at_kept (b ∷ bs) (m ∷ ms) (suc k) = at_kept bs ms k

-- a steady awake set is as it was
pub awake_is : (m : Meaning) → Steady (awake m) → awake m ≡ m
awake_is m s = go (none_left m.pairs) s
  where
    go : (b : Bool) → cond b lost m.mark ≡ steady → record { pairs = m.pairs; mark = cond b lost m.mark } ≡ m
    go true e = absurd (let z : ◌≡◌ {A = ℕ} 0 1 = cc in omega arith)
    go false e = refl

pub awake_known : (m : Meaning) → Known (awake m).mark → Known m.mark
awake_known m k = go (none_left m.pairs) k
  where
    go : (b : Bool) → Known (cond b lost m.mark) → Known m.mark
    go true e = absurd e
    go false e = e

pub awake_some : (ps : List Pair) → first_id ps < TERM → awake (calm ps) ≡ calm ps
awake_some [] lt = absurd (omega arith)
awake_some (p ∷ ps) lt = refl

pub at_live : (bs : List Bool) (ms : List Meaning) (k : ℕ) → live_at bs k → at (kept bs ms) k ≡ awake (at ms k)
at_live bs ms k l = at_kept bs ms k ∙ rw l

pub at_dead : (bs : List Bool) (ms : List Meaning) (k : ℕ) → get_or bs k false ≡ false → at (kept bs ms) k ≡ empty
at_dead bs ms k l = at_kept bs ms k ∙ rw l

kept_put : (bs : List Bool) (ms : List Meaning) (k : ℕ) (b : Bool) (m : Meaning) → kept (set bs k b) (set ms k m) ≡ set (kept bs ms) k (cond b (awake (at (set ms k m) k)) empty)
kept_put [] ms k b m = refl
kept_put (x ∷ bs) [] zero b m = refl
kept_put (x ∷ bs) [] (suc k) b m = ap (λ xs. cond x (awake empty) empty ∷ xs) (kept_put bs [] k b m)
kept_put (x ∷ bs) (y ∷ ms) zero b m = refl
kept_put (x ∷ bs) (y ∷ ms) (suc k) b m = ap (λ xs. cond x (awake y) empty ∷ xs) (kept_put bs ms k b m)

flag_set : (bs : List Bool) (k : ℕ) (b : Bool) → live_at bs k → get_or (set bs k b) k false ≡ b
flag_set [] k b l = absurd (let z : true ≡ false = sym l in let y : ◌≡◌ {A = ℕ} 0 1 = cc in omega arith)
flag_set (x ∷ bs) zero b l = refl
flag_set (x ∷ bs) (suc k) b l = flag_set bs k b l

flag_same : (bs : List Bool) (k : ℕ) → live_at bs k → set bs k true ≡ bs
flag_same [] k l = refl
flag_same (x ∷ bs) zero l = ap (λ y. y ∷ bs) (sym l)
flag_same (x ∷ bs) (suc k) l = ap (λ y. x ∷ y) (flag_same bs k l)

due_none : (bs : List Bool) (k : ℕ) (b : Bool) → live_at bs k → due (set bs k b) [] + 1 ≡ due bs [] + due_of b empty
due_none [] k b l = absurd (let y : ◌≡◌ {A = ℕ} 0 1 = cc in omega arith)
due_none (x ∷ bs) zero b l = rw l (omega arith)
due_none (x ∷ bs) (suc k) b l = let h = due_none bs k b l in omega arith

due_put : (bs : List Bool) (ms : List Meaning) (k : ℕ) (b : Bool) (m : Meaning) → live_at bs k
    → due (set bs k b) (set ms k m) + suc (length (at ms k).pairs) ≡ due bs ms + due_of b (at (set ms k m) k)
due_put [] ms k b m l = absurd (let y : ◌≡◌ {A = ℕ} 0 1 = cc in omega arith)
due_put (x ∷ bs) [] k b m l = due_none (x ∷ bs) k b l
due_put (x ∷ bs) (y ∷ ms) zero b m l = rw l (omega arith)
due_put (x ∷ bs) (y ∷ ms) (suc k) b m l = let h = due_put bs ms k b m l in omega arith

-- one place changed: what is kept, and the due
pub changed : (bs cs : List Bool) (P Q : List Meaning) (k : ℕ) (b : Bool) → live_at bs k → cs ≡ set bs k b → Q ≡ set P k (at Q k)
    → (at (kept cs Q) k ≡ cond b (awake (at Q k)) empty)
    × (kept cs Q ≡ set (kept bs P) k (at (kept cs Q) k))
    × (due cs Q + suc (length (at P k).pairs) ≡ due bs P + due_of b (at Q k))
changed bs cs P Q k b l f e =
    let a : at (kept cs Q) k ≡ cond b (awake (at Q k)) empty =
    at_kept cs Q k ∙ ap (λ (ds : List Bool). cond (get_or ds k false) (awake (at Q k)) empty) f ∙ ap (λ x. cond x (awake (at Q k)) empty) (flag_set bs k b l) in (
      a,
      ap (λ (ds : List Bool). kept ds Q) f ∙ ap (kept (set bs k b)) e ∙ kept_put bs P k b (at Q k) ∙ ap (λ X. set (kept bs P) k (cond b (awake (at X k)) empty)) (sym e) ∙ ap (set (kept bs P) k) (sym a),
      ap (λ (ds : List Bool). due ds Q + suc (length (at P k).pairs)) f ∙ ap (λ X. due (set bs k b) X + suc (length (at P k).pairs)) e ∙ due_put bs P k b (at Q k) l ∙ ap (λ X. due bs P + due_of b (at X k)) (sym e),
    )

-- a live set that reads as steady
through : (bs : List Bool) (P : List Meaning) (k : ℕ) → live_at bs k → Steady (at (kept bs P) k) → at (kept bs P) k ≡ at P k
through bs P k l s = let p = at_live bs P k l in p ∙ awake_is (at P k) (subst Steady p s)

-- ---- calls at place k

-- `changed` for a set that stays live, and for one that has ended
stays :
    {B : Type 0} (rows : B → Rows) (old new : Live B) (k : ℕ) → live_at old.live k → new.live ≡ old.live → Elsewhere k (rows old.bank) (rows new.bank) →
    (at (left rows new) k ≡ awake (at (rows new.bank).places k))
    × (left rows new ≡ set (left rows old) k (at (left rows new) k))
    × (awaited rows new + suc (length (at (rows old.bank).places k).pairs) ≡ awaited rows old + suc (length (at (rows new.bank).places k).pairs))
stays rows old new k l f e =
    changed old.live new.live (rows old.bank).places (rows new.bank).places k true l (f ∙ sym (flag_same old.live k l)) e.lists

ends :
    {B : Type 0} (rows : B → Rows) (old new : Live B) (k : ℕ) → live_at old.live k → new.live ≡ set old.live k false → Elsewhere k (rows old.bank) (rows new.bank) →
    (at (left rows new) k ≡ empty)
    × (left rows new ≡ set (left rows old) k (at (left rows new) k))
    × (awaited rows new + suc (length (at (rows old.bank).places k).pairs) ≡ awaited rows old + 0)
ends rows old new k l f e = changed old.live new.live (rows old.bank).places (rows new.bank).places k false l f e.lists

pub advances_live :
    {B : Type 0} (rows : B → Rows) (old new : Live B) (k r : ℕ) → live_at old.live k → new.live ≡ old.live →
    Moved (at (rows old.bank).places k) (at (rows new.bank).places k) r → Elsewhere k (rows old.bank) (rows new.bank) →
    (r ≡ TERM → ⊥) → Advances rows old new k r
advances_live rows old new k r l f v e n =
    let c = stays rows old new k l f e in
    let P = (rows old.bank).places in
    let Q = (rows new.bank).places in
    let lt : length (at Q k).pairs < length (at P k).pairs = ⊎_elim (λ x. x) (λ x. absurd (n x)) v.drops in
    record {
      steps = record {
        an_id = v.an_id;
        becomes = λ s x. let t = through old.live P k l s in let w = v.becomes (subst Steady t s) in let y = v.tells (subst Steady t s) in let z = v.an_id in
            c.0 ∙ ap awake w ∙ awake_some (rest (at P k).pairs) (omega (arith, n)) ∙ ap (λ m. calm (rest m.pairs)) (sym t);
        tells = λ s. let t = through old.live P k l s in v.tells (subst Steady t s) ∙ ap (λ m. first_id (rest m.pairs)) (sym t);
      };
      others = c.1;
      live = λ x. ap (λ (bs : List Bool). get_or bs k false) f ∙ l;
      pays = λ x. let y = c.2 in omega arith;
      falls = λ x. let y = c.2 in omega arith;
      never_more = let y = c.2 in omega arith;
    }

pub advances_ended :
    {B : Type 0} (rows : B → Rows) (old new : Live B) (k r : ℕ) → live_at old.live k → new.live ≡ set old.live k false →
    Moved (at (rows old.bank).places k) (at (rows new.bank).places k) r → Elsewhere k (rows old.bank) (rows new.bank) →
    r ≡ TERM → Advances rows old new k r
advances_ended rows old new k r l f v e n =
    let c = ends rows old new k l f e in
    let P = (rows old.bank).places in
    let W = left rows old in
    record {
      steps = record {
        an_id = v.an_id;
        becomes = λ s x. c.0 ∙ ap calm (sym (ended 0 (rest (at W k).pairs) (rising_rest (at W k).pairs x) (let t = through old.live P k l s in ap (λ m. first_id (rest m.pairs)) t ∙ sym (v.tells (subst Steady t s)) ∙ n)));
        tells = λ s. let t = through old.live P k l s in v.tells (subst Steady t s) ∙ ap (λ m. first_id (rest m.pairs)) (sym t);
      };
      others = c.1;
      live = λ x. absurd (omega arith);
      pays = λ x. let y = c.2 in omega arith;
      falls = λ x. absurd (omega arith);
      never_more = let y = c.2 in omega arith;
    }

pub advances_none : {B : Type 0} (rows : B → Rows) (old : Live B) (k : ℕ) → get_or old.live k false ≡ false → Advances rows old old k TERM
advances_none rows old k l =
    let a = at_dead old.live (rows old.bank).places k l in
    record {
      steps = record {
        an_id = omega arith;
        becomes = λ s x. a ∙ ap (λ m. calm (rest m.pairs)) (sym a);
        tells = λ s. ap (λ m. first_id (rest m.pairs)) (sym a);
      };
      others = set_at (left rows old) k;
      live = λ x. absurd (omega arith);
      pays = λ x. absurd (let y : ◌≡◌ {A = ℕ} 0 1 = cc in omega arith);
      falls = λ x. absurd (omega arith);
      never_more = omega arith;
    }

pub scores_live :
    {B : Type 0} (rows : B → Rows) (old new : Live B) (k : ℕ) (r : Float) → live_at old.live k → new.live ≡ old.live →
    Scored (at (rows old.bank).places k) (at (rows new.bank).places k) r → Elsewhere k (rows old.bank) (rows new.bank) → Scores rows old new k r
scores_live rows old new k r l f v e =
    let c = stays rows old new k l f e in
    let P = (rows old.bank).places in
    let p = at_live old.live P k l in
    record {
      tells = record {
        shrinks = let s = v.shrinks in let x = ap (λ m. length m.pairs) p in let y = ap (λ m. length m.pairs) c.0 in omega arith;
        same = λ s. let t = through old.live P k l s in c.0 ∙ ap awake (v.same (subst Steady t s)) ∙ sym p;
        tells = λ s. let t = through old.live P k l s in v.tells (subst Steady t s) ∙ ap (λ m. first_score m.pairs) (sym t);
      };
      others = c.1;
      live = f;
      pays = let s = v.shrinks in let y = c.2 in omega arith;
    }

pub scores_none : {B : Type 0} (rows : B → Rows) (old : Live B) (k : ℕ) → get_or old.live k false ≡ false → Scores rows old old k zero_score
scores_none rows old k l =
    let a = at_dead old.live (rows old.bank).places k l in
    let G : Meaning → Type 0 = λ m. Scored m m zero_score in
    record {
      tells = subst G (sym a) (record { shrinks = omega arith; same = λ s. refl; tells = λ s. refl });
      others = set_at (left rows old) k;
      live = refl;
      pays = omega arith;
    }

pub told_live : (bs : List Bool) (P : List Meaning) (k r : ℕ) → live_at bs k → Told (at P k) r → Told (at (kept bs P) k) r
told_live bs P k r l t =
    let F : Meaning → Type 0 = λ m. Told m r in
    subst F (sym (at_live bs P k l)) (record {
      an_id = t.an_id;
      rises = λ h. t.rises (awake_known (at P k) h);
      tells = λ s. t.tells (subst Steady (awake_is (at P k) s) s);
    })

pub told_none : (bs : List Bool) (P : List Meaning) (k : ℕ) → get_or bs k false ≡ false → Told (at (kept bs P) k) TERM
told_none bs P k l = let F : Meaning → Type 0 = λ m. Told m TERM in subst F (sym (at_dead bs P k l)) (record { an_id = omega arith; rises = λ x. tt; tells = λ s. refl })

pub steady_at : (ms : List Meaning) (k : ℕ) → AllSteady ms → Steady (at ms k)
steady_at [] k h = refl
steady_at (m ∷ ms) zero h = h.0
steady_at (m ∷ ms) (suc k) h = steady_at ms k h.1

pub rising_all : (ms : List Meaning) → ((k : ℕ) → k < length ms → Rising 0 (at ms k).pairs) → AllRising ms
rising_all [] h = tt
rising_all (m ∷ ms) h = (h 0 (omega arith), rising_all ms (λ k lt. h (suc k) (omega arith)))

pub lowest_step : (ms : List Meaning) (i : ℕ) → lowest_of (drop i ms) ≡ min (first_id (at ms i).pairs) (lowest_of (drop (i + 1) ms))
lowest_step [] i = rw (drop-nil i) (rw (drop-nil (i + 1)))
lowest_step (m ∷ ms) zero = refl
lowest_step (m ∷ ms) (suc i) = let e = lowest_step ms i in rw add-one (rw add-one at e)

pub lowest_le : (ms : List Meaning) → lowest_of ms ≤ TERM
lowest_le [] = omega arith
lowest_le (m ∷ ms) = let h = lowest_le ms in omega arith

pub length_kept : (bs : List Bool) (ms : List Meaning) → length (kept bs ms) ≤ length bs
length_kept [] ms = omega arith
length_kept (b ∷ bs) [] = let h = length_kept bs [] in omega arith
length_kept (b ∷ bs) (m ∷ ms) = let h = length_kept bs ms in omega arith

-- what a flag makes of a set leaves it as it is
abbrev Apt : Bool → Meaning → Type 0
Apt b m = cond b (awake m) empty ≡ m

-- the flag that a set's answer d makes
flag_apt : (m : Meaning) (d : ℕ) (b : Bool) → Told m d → b ≡ not (nat_eq d TERM) → Steady m → Apt b m
flag_apt m d b t e s = subst (λ (x : Bool). Apt x m) (sym e) (go (nat_eq d TERM) refl)
  where
    same : m ≡ calm m.pairs
    same = settled m m.pairs s refl

    first : d ≡ first_id m.pairs
    first = t.tells s

    go : (x : Bool) → nat_eq d TERM ≡ x → Apt (not x) m
    go true e = let q = eqb-true d TERM e in ap calm (sym (ended 0 m.pairs (t.rises (steady_known m.mark s)) (omega arith))) ∙ sym same
    go false e = let q = eqb-false d TERM e in let a = t.an_id in ap awake same ∙ awake_some m.pairs (omega (arith, q)) ∙ sym same

-- an array of what a closure, which stays as it is, says of each number
from_each :
    {F B : Type 0} (g : Mut F (ℕ × Unit {0}) B) (R : ℕ → B → Type 0) (f : F) →
    ((i : ℕ) (y : B) (q : F) → Called g f (i, tt) y q → R i y × (q ≡ f)) →
    (ys : List B) (i n : ℕ) → IsFromFnResultFrom g f ys i n → (k : ℕ) (e : B) → i ≤ k → k < i + n → R k (get_or ys k e)
from_each g R f step ys i zero c k e lo hi = absurd (omega arith)
from_each g R f step ys i (suc n) c k e lo hi =
    let s = step i c.1 c.0 c.3 in
    ⊎_elim
    (λ l. from_each g R f step ys (i + 1) n (subst (λ p. IsFromFnResultFrom g p ys (i + 1) n) s.1 c.4) k e (omega arith) (omega arith))
    (λ l. subst (λ j. R j (get_or ys j e)) (omega arith) (subst (R i) (sym (c.2.1 e)) s.0))
    (cases_lt i k)

-- flags that are so made of what the first 32 sets answer leave steady sets as they are
pub flags_apt :
    {F : Type 0} (g : Mut F (ℕ × Unit {0}) Bool) (P : List Meaning) (f : F) (bs : List Bool) → IsFromFnResult g f bs 32 →
    ((i : ℕ) (b : Bool) (q : F) → Called g f (i, tt) b q → ((d : ℕ) × Told (at P i) d × (b ≡ not (nat_eq d TERM))) × (q ≡ f)) →
    AllSteady P → (k : ℕ) → k < 32 → at (kept bs P) k ≡ at P k
flags_apt g P f bs r step s k l =
    let a = from_each g (λ i b. (d : ℕ) × Told (at P i) d × (b ≡ not (nat_eq d TERM))) f step bs 0 32 r.each k false (omega arith) (omega arith) in
    at_kept bs P k ∙ flag_apt (at P k) a.0 (get_or bs k false) a.1 a.2 (steady_at P k s)

pub at_outside : (ms : List Meaning) (k : ℕ) → length ms ≤ k → at ms k ≡ empty
at_outside ms k h = get_or_past ms k empty h

pub steady_all : (ms : List Meaning) → ((k : ℕ) → k < length ms → Steady (at ms k)) → AllSteady ms
steady_all [] h = tt
steady_all (m ∷ ms) h = (h 0 (omega arith), steady_all ms (λ k lt. h (suc k) (omega arith)))

-- ---- seeking

pub sent_live :
    {B : Type 0} (t : ℕ) (rows : B → Rows) (old new : Live B) (k d r : ℕ) → Told (at (left rows old) k) d → live_at old.live k →
    new.live ≡ old.live → Sought t (at (rows old.bank).places k) (at (rows new.bank).places k) r →
    Elsewhere k (rows old.bank) (rows new.bank) → (r ≡ TERM → ⊥) → Sent t rows old new k
sent_live t rows old new k d r u l f v e n =
    let c = stays rows old new k l f e in
    let P = (rows old.bank).places in
    record {
      rises = λ s. u.rises (steady_known (at (left rows old) k).mark s);
      becomes = λ s. let x = through old.live P k l s in let w = v.becomes (subst Steady x s) in let y = v.tells (subst Steady x s) in let z = v.an_id in
          c.0 ∙ ap awake w ∙ awake_some (from t (at P k).pairs) (omega (arith, n)) ∙ ap (λ m. calm (from t m.pairs)) (sym x);
      others = c.1;
      pays = let y = c.2 in let z = v.shrinks in omega arith;
    }

pub sent_ended :
    {B : Type 0} (t : ℕ) (rows : B → Rows) (old new : Live B) (k d r : ℕ) → Told (at (left rows old) k) d → live_at old.live k →
    new.live ≡ set old.live k false → Sought t (at (rows old.bank).places k) (at (rows new.bank).places k) r →
    Elsewhere k (rows old.bank) (rows new.bank) → r ≡ TERM → Sent t rows old new k
sent_ended t rows old new k d r u l f v e n =
    let c = ends rows old new k l f e in
    let P = (rows old.bank).places in
    let m = at (left rows old) k in
    record {
      rises = λ s. u.rises (steady_known m.mark s);
      becomes = λ s. c.0 ∙ ap calm (sym (ended 0 (from t m.pairs) (rising_from t 0 m.pairs (u.rises (steady_known m.mark s)))
          (let x = through old.live P k l s in ap (λ m. first_id (from t m.pairs)) x ∙ sym (v.tells (subst Steady x s)) ∙ n)));
      others = c.1;
      pays = let y = c.2 in omega arith;
    }

pub at_part : (h i : ℕ) (P : List Meaning) → at (part h i P) i ≡ at P i
at_part h zero P = refl
at_part h (suc i) [] = refl
at_part h (suc i) (m ∷ ms) = at_part h i ms

pub set_part : (h i : ℕ) (P : List Meaning) → set (part h i P) i (calm (from h (at P i).pairs)) ≡ part h (suc i) P
set_part h zero [] = refl
set_part h zero (m ∷ ms) = refl
set_part h (suc i) [] = refl
set_part h (suc i) (m ∷ ms) = ap (λ xs. calm (from h m.pairs) ∷ xs) (set_part h i ms)

pub part_all : (h n : ℕ) (P : List Meaning) → length P ≤ n → part h n P ≡ passed h P
part_all h zero [] le = refl
part_all h (suc n) [] le = refl
part_all h zero (m ∷ ms) le = absurd (omega arith)
part_all h (suc n) (m ∷ ms) le = ap (λ xs. calm (from h m.pairs) ∷ xs) (part_all h n ms (omega arith))

-- the first i sets are sought to t
pub record Sending {B : Type 0} (t i : ℕ) (rows : B → Rows) (old new : Live B) : Type 0 where
  pub rises : AllSteady (left rows old) → (k : ℕ) → k < i → Rising 0 (at (left rows old) k).pairs
  pub becomes : AllSteady (left rows old) → left rows new ≡ part t i (left rows old)
  pub pays : awaited rows new ≤ awaited rows old

pub sending_more :
    {B : Type 0} (t i : ℕ) (rows : B → Rows) (old mid new : Live B) → Sending t i rows old mid → Sent t rows mid new i →
    Sending t (i + 1) rows old new
sending_more t i rows old mid new v w = record {
  rises = λ s. below_more _ _ (v.rises s) (subst Up (here s) (w.rises (subst Steady (sym (here s)) (steady_at W i s))));
  becomes = λ s. rw add-one (w.others ∙ ap (set (left rows mid) i) (w.becomes (subst Steady (sym (here s)) (steady_at W i s)) ∙ ap (λ m. calm (from t m.pairs)) (here s))
      ∙ ap (λ X. set X i (calm (from t (at W i).pairs))) (v.becomes s) ∙ set_part t i W);
  pays = let a = v.pays in let b = w.pays in omega arith;
}
  where
    W : List Meaning
    W = left rows old

    Up : Meaning → Type 0
    Up m = Rising 0 m.pairs

    here : AllSteady W → at (left rows mid) i ≡ at W i
    here s = ap (λ X. at X i) (v.becomes s) ∙ at_part t i W

pub idle_at : (n : ℕ) (P : List Meaning) (k : ℕ) → at (kept (replicate n false) P) k ≡ empty
idle_at n P k = at_dead (replicate n false) P k (off (split k n))
  where
    split : (a b : ℕ) → (a < b) ⊎ (b ≤ a)
    split a b = go (ltb a b) refl
      where
        go : (t : Bool) → ltb a b ≡ t → (a < b) ⊎ (b ≤ a)
        go true e = inl (ltb-true a b e)
        go false e = inr (ltb-false a b e)

    off : (k < n) ⊎ (n ≤ k) → get_or (replicate n false) k false ≡ false
    off (inl l) = get_or-replicate n k false false l
    off (inr g) = get_or_past (replicate n false) k false (rw length-replicate g)

pub idle_steady : (X : List Meaning) → ((k : ℕ) → at X k ≡ empty) → AllSteady X
idle_steady X h = steady_all X (λ k l. ap (λ m. m.mark) (h k))

pub idle_low : (X : List Meaning) → ((k : ℕ) → at X k ≡ empty) → TERM ≤ lowest_of X
idle_low [] h = omega arith
idle_low (m ∷ X) h = let a = ap (λ m. first_id m.pairs) (h 0) in let b = idle_low X (λ k. h (suc k)) in omega arith

-- of a bank of at most 32 sets each place reads as it was, if the first 32 do
pub alike_places : {B : Type 0} (rows : B → Rows) (bank : B) (v : Live B) → length (rows bank).places ≤ 32
    → ((k : ℕ) → k < 32 → at (left rows v) k ≡ at (rows bank).places k) → (k : ℕ) → at (left rows v) k ≡ at (rows bank).places k
alike_places rows bank v few apt k =
    ⊎_elim (apt k) (λ l. let h = length_kept v.live (rows v.bank).places in let n = v.count in at_outside (left rows v) k (omega arith) ∙ sym (at_outside (rows bank).places k (omega arith))) (cases_lt k 32)
