-- The scores of an id in several sets, and the lists that come of them.
use Rattle.std.proofs.Common.{◌≡◌, ℕ, suc, ◌+◌, ◌-◌, ◌<◌, ◌≤◌, min, Bool, true, false, cond, ltb, ◌⊎◌, List, [], ◌∷◌, ◌++◌, length, sym, refl, ap, ◌∙◌, subst, inl, inr, arith, ltb-false, ltb-true, le-ltb, eq-eqb, ne_eqb}
use lib.Ieee.{Float}
use Rattle.combiner.specs.declared.score_combiner.Tally.{Tally}
use Rattle.combiner.specs.Scores.{start}
use Rattle.docset.specs.Meaning.{Meaning, Pair, TERM, Rising, from, first_id}
use Rattle.combiner.specs.Cells.{Cell, none, some, put, puts, listed}
use Rattle.bank.specs.Places.{at}
use Rattle.live.specs.Sets.{passed, lowest_of, AllRising}
use Rattle.live.specs.Lists.{scores_in, scores_at, united, union_list, sifted, threshold_list}
use Rattle.combiner.proofs.Cells.{listed_same, listed_skip, listed_head, listed_split, listed_from, listed_rises}

-- below the first id of a rising list there is no score
pub scores_low : (d lo : ℕ) (ps : List Pair) → d < lo → Rising lo ps → scores_in d ps ≡ []
scores_low d lo [] lt r = refl
scores_low d lo (p ∷ ps) lt r =
    let n = ne_eqb p.id d (λ q. omega arith) in rw n (scores_low d (suc p.id) ps (omega arith) r.2)

pub scores_first : (d : ℕ) (ps : List Pair) → Rising 0 ps → d < first_id ps → scores_in d ps ≡ []
scores_first d [] r lt = refl
scores_first d (p ∷ ps) r lt =
    let n = ne_eqb p.id d (λ q. omega arith) in rw n (scores_low d (suc p.id) ps (omega arith) r.2)

-- what was dropped has no score at or past the horizon
pub scores_from : (h d : ℕ) (ps : List Pair) → h ≤ d → scores_in d (from h ps) ≡ scores_in d ps
scores_from h d [] le = refl
scores_from h d (p ∷ ps) le = go (ltb p.id h) refl (scores_from h d ps le)
  where
    go : (b : Bool) → ltb p.id h ≡ b → scores_in d (from h ps) ≡ scores_in d ps → scores_in d (cond b (from h ps) (p ∷ ps)) ≡ scores_in d (p ∷ ps)
    go true e ih = let l = ltb-true p.id h e in let n = ne_eqb p.id d (λ q. omega arith) in rw n ih
    go false e ih = refl

raise : (lo h : ℕ) (ps : List Pair) → Rising lo ps → Rising h (from h ps)
raise lo h [] r = tt
raise lo h (p ∷ ps) r = go (ltb p.id h) refl (raise (suc p.id) h ps r.2)
  where
    go : (b : Bool) → ltb p.id h ≡ b → Rising h (from h ps) → Rising h (cond b (from h ps) (p ∷ ps))
    go true e ih = ih
    go false e ih = let l = ltb-false p.id h e in (omega arith, r.1, r.2)

-- and none below it
pub scores_gone : (h d : ℕ) (ps : List Pair) → Rising 0 ps → d < h → scores_in d (from h ps) ≡ []
scores_gone h d ps r lt = scores_low d h (from h ps) lt (raise 0 h ps r)

pub at_low : (d : ℕ) (ms : List Meaning) → AllRising ms → d < lowest_of ms → scores_at d ms ≡ []
at_low d [] r lt = refl
at_low d (m ∷ ms) r lt = let a = scores_first d m.pairs r.0 (omega arith) in let b = at_low d ms r.1 (omega arith) in rw (a, b)

pub at_passed : (h d : ℕ) (ms : List Meaning) → h ≤ d → scores_at d (passed h ms) ≡ scores_at d ms
at_passed h d [] le = refl
at_passed h d (m ∷ ms) le = let a = scores_from h d m.pairs le in let b = at_passed h d ms le in rw (a, b)

pub at_gone : (h d : ℕ) (ms : List Meaning) → AllRising ms → d < h → scores_at d (passed h ms) ≡ []
at_gone h d [] r lt = refl
at_gone h d (m ∷ ms) r lt = let a = scores_gone h d m.pairs r.0 lt in let b = at_gone h d ms r.1 lt in rw (a, b)

-- tallies that took something
pub puts_some : (f : Tally → Float → Tally) (t : Tally) (xs : List Float) → (u : Tally) × (puts f (some t) xs ≡ some u)
puts_some f t [] = (t, refl)
puts_some f t (x ∷ xs) = puts_some f (f t x) xs

pub puts_append : (f : Tally → Float → Tally) (c : Cell) (xs ys : List Float) → puts f c (xs ++ ys) ≡ puts f (puts f c xs) ys
puts_append f c [] ys = refl
puts_append f c (x ∷ xs) ys = puts_append f (put f c x) xs ys

pub puts_tail : (f : Tally → Float → Tally) (c : Cell) (xs ys : List Float) → ((u : Tally) × (puts f none ys ≡ some u)) → (u : Tally) × (puts f none (xs ++ ys) ≡ some u)
puts_tail f c [] ys h = h
puts_tail f c (x ∷ xs) ys h = puts_some f (f start x) (xs ++ ys)

-- the lowest first id has a tally
first_some : (f : Tally → Float → Tally) (ps : List Pair) (ys : List Float) → first_id ps < TERM → (u : Tally) × (puts f none (scores_in (first_id ps) ps ++ ys) ≡ some u)
first_some f [] ys lt = absurd (omega arith)
first_some f (p ∷ ps) ys lt = let e = eq-eqb p.id p.id refl in rw e (puts_some f (f start p.score) (scores_in p.id ps ++ ys))

split_min : (a b : ℕ) → (min a b ≡ a) ⊎ (min a b ≡ b)
split_min a b = go (ltb a b) refl
  where
    go : (t : Bool) → ltb a b ≡ t → (min a b ≡ a) ⊎ (min a b ≡ b)
    go true e = let l = ltb-true a b e in inl (omega arith)
    go false e = let l = ltb-false a b e in inr (omega arith)

pub low_some : (f : Tally → Float → Tally) (ms : List Meaning) → lowest_of ms < TERM → (u : Tally) × (united f ms (lowest_of ms) ≡ some u)
low_some f [] lt = absurd (omega arith)
low_some f (m ∷ ms) lt = go (split_min (first_id m.pairs) (lowest_of ms)) (low_some f ms)
  where
    P : ℕ → Type 0
    P x = (u : Tally) × (puts f none (scores_in x m.pairs ++ scores_at x ms) ≡ some u)

    go : (min (first_id m.pairs) (lowest_of ms) ≡ first_id m.pairs) ⊎ (min (first_id m.pairs) (lowest_of ms) ≡ lowest_of ms)
        → (lowest_of ms < TERM → (u : Tally) × (united f ms (lowest_of ms) ≡ some u)) → P (min (first_id m.pairs) (lowest_of ms))
    go (inl e) ih = subst P (sym e) (first_some f m.pairs (scores_at (first_id m.pairs) ms) (omega arith))
    go (inr e) ih = subst P (sym e) (puts_tail f none (scores_in (lowest_of ms) m.pairs) (scores_at (lowest_of ms) ms) (ih (omega arith)))

-- (iv) a union's ids rise, whatever its sets are
pub union_rises : (f : Tally → Float → Tally) (tell : Tally → Float) (ms : List Meaning) → Rising 0 (union_list f tell ms)
unfolding union_list
union_rises f tell ms = listed_rises tell (united f ms) 0 TERM (omega arith)

-- (i) splitting at a horizon
pub union_split : (f : Tally → Float → Tally) (tell : Tally → Float) (ms : List Meaning) (h : ℕ) → AllRising ms → h ≤ TERM
    → union_list f tell ms ≡ listed tell (united f ms) 0 h ++ union_list f tell (passed h ms)
unfolding union_list
union_split f tell ms h r le =
    let p : TERM ≡ h + (TERM - h) = omega arith in
    let q : 0 + h ≡ h = omega arith in
    ap (listed tell (united f ms) 0) p ∙ listed_split tell (united f ms) 0 h (TERM - h)
    ∙ ap (λ x. listed tell (united f ms) 0 h ++ x)
    (listed_same tell (united f ms) (united f (passed h ms)) (0 + h) (TERM - h) (λ d ge lt. ap (puts f none) (sym (at_passed h d ms (omega arith))))
    ∙ sym (listed_skip tell (united f (passed h ms)) 0 h (TERM - h) (λ d ge lt. ap (puts f none) (at_gone h d ms r (omega arith))))
    ∙ ap (listed tell (united f (passed h ms)) 0) (sym p))

-- (ii) dropping
pub union_from : (f : Tally → Float → Tally) (tell : Tally → Float) (ms : List Meaning) (h : ℕ) → AllRising ms → h ≤ TERM
    → from h (union_list f tell ms) ≡ union_list f tell (passed h ms)
unfolding union_list
union_from f tell ms h r le =
    let p : TERM ≡ h + (TERM - h) = omega arith in
    ap (λ n. from h (listed tell (united f ms) 0 n)) p
    ∙ ap (λ x. from x (listed tell (united f ms) 0 (h + (TERM - h)))) (omega arith)
    ∙ listed_from tell (united f ms) 0 h (TERM - h) (omega arith)
    ∙ listed_same tell (united f ms) (united f (passed h ms)) (0 + h) (TERM - h) (λ d ge lt. ap (puts f none) (sym (at_passed h d ms (omega arith))))
    ∙ sym (listed_skip tell (united f (passed h ms)) 0 h (TERM - h) (λ d ge lt. ap (puts f none) (at_gone h d ms r (omega arith))))
    ∙ ap (listed tell (united f (passed h ms)) 0) (sym p)

-- (iii) the head
pub union_head : (f : Tally → Float → Tally) (tell : Tally → Float) (ms : List Meaning) → AllRising ms → lowest_of ms < TERM
    → (t : Tally) × (united f ms (lowest_of ms) ≡ some t) × (union_list f tell ms ≡ record { id = lowest_of ms; score = tell t } ∷ listed tell (united f ms) (suc (lowest_of ms)) (TERM - suc (lowest_of ms)))
unfolding union_list
union_head f tell ms r lt =
    let s = low_some f ms lt in
    (s.0, s.1, listed_head tell (united f ms) 0 (lowest_of ms) TERM s.0 (omega arith) lt (λ d ge l. ap (puts f none) (at_low d ms r l)) s.1)

-- banks alike place by place have the same union
pub scores_alike : (d : ℕ) (X Y : List Meaning) → ((k : ℕ) → at X k ≡ at Y k) → scores_at d X ≡ scores_at d Y
scores_alike d [] [] h = refl
scores_alike d [] (y ∷ Y) h = let a = ap (λ m. scores_in d m.pairs) (sym (h 0)) in let b = scores_alike d [] Y (λ k. h (suc k)) in rw (a, ← b)
scores_alike d (x ∷ X) [] h = let a = ap (λ m. scores_in d m.pairs) (h 0) in let b = scores_alike d X [] (λ k. h (suc k)) in rw (a, b)
scores_alike d (x ∷ X) (y ∷ Y) h = let a = ap (λ m. scores_in d m.pairs) (h 0) in let b = scores_alike d X Y (λ k. h (suc k)) in rw (a, b)

pub union_alike : (f : Tally → Float → Tally) (tell : Tally → Float) (X Y : List Meaning) → ((k : ℕ) → at X k ≡ at Y k) → union_list f tell X ≡ union_list f tell Y
unfolding union_list
union_alike f tell X Y h = listed_same tell (united f X) (united f Y) 0 TERM (λ d g l. ap (puts f none) (scores_alike d X Y h))

-- what a threshold of one set gathers is what a union does
sifted_one : (f : Tally → Float → Tally) (xs : List Float) → cond (ltb (length xs) 1) none (puts f none xs) ≡ puts f none xs
sifted_one f [] = refl
sifted_one f (x ∷ xs) = let e = le-ltb (length (x ∷ xs)) 1 (omega arith) in rw e

pub threshold_one : (f : Tally → Float → Tally) (tell : Tally → Float) (ms : List Meaning) → threshold_list 1 f tell ms ≡ union_list f tell ms
unfolding union_list threshold_list
threshold_one f tell ms = listed_same tell (sifted 1 f ms) (united f ms) 0 TERM (λ d g l. sifted_one f (scores_at d ms))
