-- Two sets that are drained in step.
use Rattle.std.proofs.Common.{◌≡◌, ℕ, ◌<◌, Bool, true, false, eqb, List, [], ◌∷◌, sym, refl, ap, ◌∙◌, subst, arith}
use lib.Ieee.{Float}
use Rattle.std.proofs.lemmas.Bool.{eq-eqb, eqb-true}
use Rattle.docset.specs.Meaning.{Meaning, Pair, TERM, Steady, first_id, first_score, rest, Rising}
use Rattle.docset.specs.Calls.{Told, Moved, Scored}
use Rattle.docset.proofs.Lists.{ended}
use Rattle.docset.proofs.Walking.{Along, along_starts, along_steps, ahead, falls}
use Rattle.logs.specs.Runs.{◌⟺◌, ToldApart, Alike}
use Rattle.logs.proofs.Laws.{told_apart}

-- i and j are what is left of m and n, and stand at d and e; what was passed was the same
pub record Tracked (m n i j : Meaning) (d e : ℕ) : Type 0 where
  pub rises : Steady m → Rising 0 m.pairs
  pub rises' : Steady n → Rising 0 n.pairs
  pub along : Along m i d
  pub along' : Along n j e
  pub same : Steady m → Steady n → (i.pairs ≡ j.pairs) ⟺ (m.pairs ≡ n.pairs)

pub starts : (m n : Meaning) (d e : ℕ) → Told m d → Told n e → Tracked m n m n d e
starts m n d e h k =
    let a = along_starts m d h in
    let b = along_starts n e k in
    record { rises = a.rises; rises' = b.rises; along = a; along' = b; same = λ _ _. ((λ x. x), (λ x. x)) }

along_scores : (m i k : Meaning) (d : ℕ) (x : Float) → Along m i d → Scored i k x → Along m k d
along_scores m i k d x a h =
    record {
      an_id = a.an_id;
      shrinks = omega (arith, a.shrinks, h.shrinks);
      still = λ s. subst (λ (o : Meaning). Steady o) (sym (h.same (a.still s))) (a.still s);
      rises = λ s. subst (λ (o : Meaning). Rising 0 o.pairs) (sym (h.same (a.still s))) (a.rises s);
      tells = λ s. a.tells s ∙ ap (λ (o : Meaning). first_id o.pairs) (sym (h.same (a.still s)));
    }

-- two lists that begin alike are the same exactly if their rests are
rests : (ps qs : List Pair) → (first_id ps ≡ TERM → ⊥) → first_id ps ≡ first_id qs → first_score ps ≡ first_score qs → (rest ps ≡ rest qs) ⟺ (ps ≡ qs)
rests [] qs n i j = absurd (n refl)
rests (p ∷ ps) [] n i j = absurd (n i)
rests (p ∷ ps) (q ∷ qs) n i j = ((λ e. let z : p ≡ q = rw (i, j) in cc), (λ e. ap rest e))

module _ (m n i j : Meaning) (d e : ℕ) (h : Tracked m n i j d e) where
  decides : (r : Bool) → (Steady m → Steady n → (r ≡ true) ⟺ (i.pairs ≡ j.pairs)) → Alike m n r
  decides r k =
      let lists : Steady m → Steady n → (r ≡ true) ⟺ (m.pairs ≡ n.pairs) =
      λ s t. ((λ x. (h.same s t).0 ((k s t).0 x)), (λ x. (k s t).1 ((h.same s t).1 x))) in
      let law : Steady m → Steady n → ToldApart m n = λ s t. told_apart m n s t (h.rises s) (h.rises' t) in
      record {
        lists = lists;
        logs = λ s t. ((λ x. (law s t).promised.1 ((lists s t).0 x)), (λ x. (lists s t).1 ((law s t).promised.0 x)));
        told = λ s t f g x y. (
          (λ z. ((law s t).told f g x y).1 ((lists s t).0 z)),
          (λ z. (lists s t).1 (((law s t).told f g x y).0 z)),
        );
      }

  pub ends : d ≡ TERM → Alike m n (eqb e TERM)
  ends z =
      decides (eqb e TERM)
      (λ s t.
      let a : i.pairs ≡ [] = ended 0 i.pairs (h.along.rises s) (sym (h.along.tells s) ∙ z) in
      let b = h.along'.tells t in (
        (λ x. a ∙ sym (ended 0 j.pairs (h.along'.rises t) (sym b ∙ eqb-true e TERM x))),
        (λ x. eq-eqb e TERM (b ∙ ap first_id (sym x ∙ a))),
      ))

  pub ids_differ : (d ≡ e → ⊥) → Alike m n false
  ids_differ z =
      decides false
      (λ s t. ((λ f. cc), (λ x. absurd (z (h.along.tells s ∙ ap first_id x ∙ sym (h.along'.tells t))))))

  pub scores_differ : (k o : Meaning) (x y : Float) → Scored i k x → Scored j o y → (x ≡ y → ⊥) → Alike m n false
  scores_differ k o x y u v z =
      decides false
      (λ s t.
      ((λ f. cc), (λ w. absurd (z (u.tells (h.along.still s) ∙ ap first_score w ∙ sym (v.tells (h.along'.still t)))))))

  pub steps :
      (k o : Meaning) (x y : Float) → Scored i k x → Scored j o y → (d ≡ TERM → ⊥) → d ≡ e → x ≡ y →
      (k' o' : Meaning) (d' e' : ℕ) → Moved k k' d' → Moved o o' e' → Tracked m n k' o' d' e'
  steps k o x y u v ne de xy k' o' d' e' a b =
      let p = along_scores m i k d x h.along u in
      let q = along_scores n j o e y h.along' v in
      record {
        rises = h.rises;
        rises' = h.rises';
        along = along_steps m k k' d d' p a;
        along' = along_steps n o o' e e' q b;
        same = λ s t.
            let si = h.along.still s in
            let sj = h.along'.still t in
            let ki : k'.pairs ≡ rest i.pairs =
            ap (λ (w : Meaning). w.pairs) (a.becomes (p.still s)) ∙ ap (λ (w : Meaning). rest w.pairs) (u.same si) in
            let oj : o'.pairs ≡ rest j.pairs =
            ap (λ (w : Meaning). w.pairs) (b.becomes (q.still t)) ∙ ap (λ (w : Meaning). rest w.pairs) (v.same sj) in
            let f =
            rests i.pairs j.pairs (λ w. ne (h.along.tells s ∙ w)) (sym (h.along.tells s) ∙ de ∙ h.along'.tells t)
            (sym (u.tells si) ∙ xy ∙ v.tells sj) in (
              (λ w. (h.same s t).0 (f.0 (sym ki ∙ w ∙ oj))),
              (λ w. ki ∙ f.1 ((h.same s t).1 w) ∙ sym oj),
            );
      }

  -- the measure of the first set
  pub less : (k k' : Meaning) (x : Float) (d' : ℕ) → Scored i k x → (d ≡ TERM → ⊥) → Moved k k' d' → ahead k' d' < ahead i d
  less k k' x d' u ne a = omega (arith, u.shrinks, falls k k' d d' h.along.an_id ne a)
