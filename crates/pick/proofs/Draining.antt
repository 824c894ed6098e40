-- Draining a set by reading a score and going on: what holds at each turn.
use Rattle.std.proofs.Common.{◌≡◌, ℕ, List, [], ◌∷◌, ◌++◌, sym, refl, ap, ◌∙◌, subst, append_assoc, arith}
use lib.Ieee.{Float, binary32, to_bits}
use Rattle.docset.specs.Meaning.{Meaning, Pair, TERM, Steady, first_id, first_score, rest, Rising}
use Rattle.docset.specs.Calls.{Moved, Scored}
use Rattle.docset.proofs.Walking.{Along, along_steps}
use Rattle.heap.specs.declared.hit.Hit.{Hit}
use Rattle.pick.specs.Picks.{hits}

-- n is what is left of m, stands at d, and the hits of what was passed are in got
pub record Draining (m n : Meaning) (d : ℕ) (got : List Hit) : Type 0 where
  pub along : Along m n d
  pub total : Steady m → got ++ hits n.pairs ≡ hits m.pairs

-- reading the score leaves a set where it was
scored_along : (m n k : Meaning) (d : ℕ) (x : Float) → Along m n d → Scored n k x → Along m k d
scored_along m n k d x a h =
    record {
      an_id = a.an_id;
      shrinks = omega (arith, h.shrinks, a.shrinks);
      still = λ s. subst (λ (y : Meaning). Steady y) (sym (h.same (a.still s))) (a.still s);
      rises = λ s. subst (λ (y : Meaning). Rising 0 y.pairs) (sym (h.same (a.still s))) (a.rises s);
      tells = λ s. a.tells s ∙ ap (λ (y : Meaning). first_id y.pairs) (sym (h.same (a.still s)));
    }

hits_rest :
    (ps : List Pair) → (first_id ps ≡ TERM → ⊥) →
    hits ps ≡ record { bits = to_bits binary32 (first_score ps); id = first_id ps } ∷ hits (rest ps)
hits_rest [] h = absurd (h refl)
hits_rest (p ∷ ps) h = refl

pub drain_steps :
    (m n k o : Meaning) (d e : ℕ) (x : Float) (got more : List Hit) → Draining m n d got → (d ≡ TERM → ⊥) → Scored n k x →
    Moved k o e → more ≡ got ++ record { bits = to_bits binary32 x; id = d } ∷ [] → Draining m o e more
drain_steps m n k o d e x got more i ne h v w =
    let a = scored_along m n k d x i.along h in
    record {
      along = along_steps m k o d e a v;
      total = λ s.
          let p = h.same (i.along.still s) in
          let q : o.pairs ≡ rest n.pairs = ap (λ (y : Meaning). y.pairs) (v.becomes (a.still s)) ∙ ap (λ (y : Meaning). rest y.pairs) p in
          let f = hits_rest n.pairs (λ z. ne (i.along.tells s ∙ z)) in
          let u : x ≡ first_score n.pairs = h.tells (i.along.still s) in
          let t : d ≡ first_id n.pairs = i.along.tells s in
          ap (λ (l : List Hit). l ++ hits o.pairs) w ∙
          append_assoc got (record { bits = to_bits binary32 x; id = d } ∷ []) (hits o.pairs) ∙
          ap (λ (y : Float). got ++ (record { bits = to_bits binary32 y; id = d } ∷ hits o.pairs)) u ∙
          ap (λ (y : ℕ). got ++ (record { bits = to_bits binary32 (first_score n.pairs); id = y } ∷ hits o.pairs)) t ∙
          ap (λ (l : List Pair). got ++ (record { bits = to_bits binary32 (first_score n.pairs); id = first_id n.pairs } ∷ hits l)) q ∙
          ap (λ (l : List Hit). got ++ l) (sym f) ∙
          i.total s;
    }
