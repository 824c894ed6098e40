-- A set with other scores answers every call but `score` as the set below it: each promise below is one above.
use Rattle.std.proofs.Common.{◌≡◌, ℕ, zero, suc, ◌+◌, ◌≤◌, Bool, true, false, cond, ◌||◌, eqb, ltb, List, [], ◌∷◌, ◌++◌, length, take, drop, sym, refl, ap, ◌∙◌, subst, inl, inr, ⊎_elim, arith}
use lib.Ieee.{Float}
use Rattle.docset.specs.Meaning.{Meaning, Pair, TERM, Steady, calm, ids, first_id, first_score, zero_score, rest, from, has, probed, Rising, RisingIds}
use Rattle.docset.specs.Bits.{weighed, bit_set}
use Rattle.docset.specs.Calls.{Told, Moved, Sought, Probed, Bounds, Filled, Counted, CountedAlive, Scored}
use Rattle.docset.specs.declared.docset.SeekDangerResult.{SeekDangerResult}
use Rattle.docset.specs.declared.docset.SeekDangerResult.TheVariants.{Found, SeekLowerBound}
use Rattle.docset.proofs.Lists.{ended, steady_known}
use Rattle.scored.specs.Rescored.{rescored, retold}

-- ---- lists

pub ids_rescored : (f : Pair → Float) (ps : List Pair) → ids (rescored f ps) ≡ ids ps
ids_rescored f [] = refl
ids_rescored f (p ∷ ps) = ap (λ (xs : List ℕ). p.id ∷ xs) (ids_rescored f ps)

pub length_rescored : (f : Pair → Float) (ps : List Pair) → length (rescored f ps) ≡ length ps
length_rescored f [] = refl
length_rescored f (p ∷ ps) = ap suc (length_rescored f ps)

pub first_rescored : (f : Pair → Float) (ps : List Pair) → first_id (rescored f ps) ≡ first_id ps
first_rescored f [] = refl
first_rescored f (p ∷ ps) = refl

pub rest_rescored : (f : Pair → Float) (ps : List Pair) → rescored f (rest ps) ≡ rest (rescored f ps)
rest_rescored f [] = refl
rest_rescored f (p ∷ ps) = refl

pub from_rescored : (f : Pair → Float) (t : ℕ) (ps : List Pair) → rescored f (from t ps) ≡ from t (rescored f ps)
from_rescored f t [] = refl
from_rescored f t (p ∷ ps) =
    elim (ltb p.id t) as (λ (c : Bool). rescored f (cond c (from t ps) (p ∷ ps)) ≡ cond c (from t (rescored f ps)) (rescored f (p ∷ ps))) [
      | true ↦ from_rescored f t ps
      | false ↦ refl
    ]

pub probed_rescored : (f : Pair → Float) (t : ℕ) (ps : List Pair) → rescored f (probed t ps) ≡ probed t (rescored f ps)
probed_rescored f t ps =
    elim (ltb t TERM) as (λ (c : Bool). rescored f (cond c (from t ps) ps) ≡ cond c (from t (rescored f ps)) (rescored f ps)) [
      | true ↦ from_rescored f t ps
      | false ↦ refl
    ]

pub has_rescored : (f : Pair → Float) (t : ℕ) (ps : List Pair) → has t (rescored f ps) ≡ has t ps
has_rescored f t [] = refl
has_rescored f t (p ∷ ps) = ap (λ (b : Bool). eqb p.id t || b) (has_rescored f t ps)

pub drop_rescored : (f : Pair → Float) (k : ℕ) (ps : List Pair) → rescored f (drop k ps) ≡ drop k (rescored f ps)
drop_rescored f zero ps = refl
drop_rescored f (suc k) [] = refl
drop_rescored f (suc k) (p ∷ ps) = drop_rescored f k ps

pub take_rescored : (f : Pair → Float) (k : ℕ) (ps : List Pair) → rescored f (take k ps) ≡ take k (rescored f ps)
take_rescored f zero ps = refl
take_rescored f (suc k) [] = refl
take_rescored f (suc k) (p ∷ ps) =
    ap (λ (qs : List Pair). record { id = p.id; score = f p } ∷ qs) (take_rescored f k ps)

pub weighed_rescored : (f : Pair → Float) (w : ℕ → ℕ) (ps : List Pair) → weighed w (rescored f ps) ≡ weighed w ps
weighed_rescored f w [] = refl
weighed_rescored f w (p ∷ ps) = ap (λ (k : ℕ). w p.id + k) (weighed_rescored f w ps)

pub rising_rescored : (f : Pair → Float) (lo : ℕ) (ps : List Pair) → Rising lo ps → Rising lo (rescored f ps)
rising_rescored f lo ps h = subst (λ (xs : List ℕ). RisingIds lo xs) (sym (ids_rescored f ps)) h

-- ---- promises

-- what a steady set below becomes
becomes_retold :
    (f : Pair → Float) (m n : Meaning) (F : List Pair → List Pair) → rescored f (F m.pairs) ≡ F (rescored f m.pairs) →
    n ≡ calm (F m.pairs) → retold f n ≡ calm (F (rescored f m.pairs))
becomes_retold f m n F c e = ap (retold f) e ∙ ap {B = Meaning} (λ (ps : List Pair). calm ps) c

shrinks_retold :
    (f : Pair → Float) (m n : Meaning) → length n.pairs ≤ length m.pairs →
    length (rescored f n.pairs) ≤ length (rescored f m.pairs)
shrinks_retold f m n h = omega (arith, length_rescored f m.pairs, length_rescored f n.pairs)

-- the first id of what is left
first_left :
    (f : Pair → Float) (ps qs : List Pair) → rescored f ps ≡ qs → first_id ps ≡ first_id qs
first_left f ps qs e = sym (first_rescored f ps) ∙ ap first_id e

pub told_retold : (f : Pair → Float) (m : Meaning) (r : ℕ) → Told m r → Told (retold f m) r
told_retold f m r h =
    record {
      an_id = h.an_id;
      rises = λ k. rising_rescored f 0 m.pairs (h.rises k);
      tells = λ s. h.tells s ∙ sym (first_rescored f m.pairs);
    }

pub moved_retold : (f : Pair → Float) (m n : Meaning) (r : ℕ) → Moved m n r → Moved (retold f m) (retold f n) r
moved_retold f m n r h =
    record {
      an_id = h.an_id;
      shrinks = shrinks_retold f m n h.shrinks;
      drops = ⊎_elim (λ k. inl (omega (arith, length_rescored f m.pairs, length_rescored f n.pairs))) (λ k. inr k) h.drops;
      becomes = λ s. becomes_retold f m n rest (rest_rescored f m.pairs) (h.becomes s);
      tells = λ s. h.tells s ∙ first_left f _ _ (rest_rescored f m.pairs);
    }

pub sought_retold :
    (f : Pair → Float) (t : ℕ) (m n : Meaning) (r : ℕ) → Sought t m n r → Sought t (retold f m) (retold f n) r
sought_retold f t m n r h =
    record {
      an_id = h.an_id;
      shrinks = shrinks_retold f m n h.shrinks;
      becomes = λ s. becomes_retold f m n (from t) (from_rescored f t m.pairs) (h.becomes s);
      tells = λ s. h.tells s ∙ first_left f _ _ (from_rescored f t m.pairs);
    }

bounds_rescored :
    (f : Pair → Float) (t : ℕ) (ps : List Pair) (r : SeekDangerResult) → Bounds t ps r → Bounds t (rescored f ps) r
bounds_rescored f t ps Found h = tt
bounds_rescored f t ps (SeekLowerBound b) (inl h) = inl h
bounds_rescored f t ps (SeekLowerBound b) (inr h) =
    inr (h.0, subst (λ (k : ℕ). b ≤ k) (first_left f _ _ (from_rescored f (suc t) ps)) h.1)

pub probed_retold :
    (f : Pair → Float) (t : ℕ) (m n : Meaning) (r : SeekDangerResult) → Probed t m n r → Probed t (retold f m) (retold f n) r
probed_retold f t m n r h =
    record {
      an_id = h.an_id;
      shrinks = shrinks_retold f m n h.shrinks;
      answers = λ k.
          let a = h.answers k in
          record {
            tells = a.tells ∙ sym (has_rescored f t m.pairs);
            leaves = ap (rescored f) a.leaves ∙ probed_rescored f t m.pairs;
            marks = a.marks;
            bounds = bounds_rescored f t m.pairs r a.bounds;
          };
    }

pub filled_retold :
    (f : Pair → Float) (m n : Meaning) (old new : List ℕ) (r : ℕ) → Filled m n old new r →
    Filled (retold f m) (retold f n) old new r
filled_retold f m n old new r h =
    record {
      at_most = h.at_most;
      shrinks = shrinks_retold f m n h.shrinks;
      becomes = λ s. becomes_retold f m n (drop 64) (drop_rescored f 64 m.pairs) (h.becomes s);
      writes = λ s. h.writes s ∙ ap (λ (xs : List ℕ). take 64 xs ++ drop r old) (sym (ids_rescored f m.pairs));
      tells = λ s.
          h.tells s ∙ sym (length_rescored f (take 64 m.pairs)) ∙ ap length (take_rescored f 64 m.pairs);
    }

pub counted_retold : (f : Pair → Float) (m : Meaning) (r : ℕ) → Counted m r → Counted (retold f m) r
counted_retold f m r h = record { tells = λ s. h.tells s ∙ sym (length_rescored f m.pairs) }

pub counted_alive_retold :
    (f : Pair → Float) (ws : List ℕ) (m : Meaning) (r : ℕ) → CountedAlive ws m r → CountedAlive ws (retold f m) r
counted_alive_retold f ws m r h =
    record { tells = λ s. h.tells s ∙ sym (weighed_rescored f (λ d. cond (bit_set ws d) 1 0) m.pairs) }

-- ---- scores

-- a steady set that stands at TERM is empty
empty_at : (m : Meaning) (d : ℕ) → Told m d → d ≡ TERM → Steady m → m.pairs ≡ []
empty_at m d t e s = ended 0 m.pairs (t.rises (steady_known m.mark s)) (sym (t.tells s) ∙ e)

-- where no document is left the score is 0.0, whatever f is
pub scored_none :
    (f : Pair → Float) (m : Meaning) (d : ℕ) → Told m d → d ≡ TERM → Scored (retold f m) (retold f m) zero_score
scored_none f m d t e =
    record {
      shrinks = omega arith;
      same = λ s. refl;
      tells = λ s. ap (λ (ps : List Pair). first_score (rescored f ps)) (sym (empty_at m d t e s));
    }

first_is :
    (f : Pair → Float) (ps : List Pair) (d : ℕ) (x y : Float) → d ≡ first_id ps → (d ≡ TERM → ⊥) → x ≡ first_score ps →
    ((p : Pair) → p.id ≡ d → p.score ≡ x → f p ≡ y) → y ≡ first_score (rescored f ps)
first_is f [] d x y a ne b h = absurd (ne a)
first_is f (p ∷ ps) d x y a ne b h = sym (h p (sym a) (sym b))

-- a set that stands at d and tells the score x there has the score y above, if that is what f makes of such a pair
pub scored_retold :
    (f : Pair → Float) (m n : Meaning) (d : ℕ) (x y : Float) → Told m d → (d ≡ TERM → ⊥) → Scored m n x →
    ((p : Pair) → p.id ≡ d → p.score ≡ x → f p ≡ y) → Scored (retold f m) (retold f n) y
scored_retold f m n d x y t ne k h =
    record {
      shrinks = shrinks_retold f m n k.shrinks;
      same = λ s. ap (retold f) (k.same s);
      tells = λ s. first_is f m.pairs d x y (t.tells s) ne (k.tells s) h;
    }
