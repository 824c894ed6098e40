-- Sets read into the cells of a window, one after the other.
use Rattle.std.proofs.Common.{◌≡◌, ℕ, zero, suc, ◌+◌, ◌-◌, ◌<◌, ◌≤◌, List, [], ◌∷◌, ◌++◌, length, take, set, sym, refl, ap, ◌∙◌, subst, ⊎_elim, append_assoc, append-nil, add-one, arith, eq-eqb, ne_eqb}
use Rattle.bank.specs.Places.{at}
use Rattle.live.specs.Sets.{part}
use Rattle.combiner.specs.declared.score_combiner.Tally.{Tally}
use Rattle.combiner.specs.Cells.{Cell, none, some, put, puts, count}
use Rattle.window.specs.Windows.{Put}
use Rattle.std.proofs.lemmas.Bool.{cases_eq}
use Rattle.docset.specs.Meaning.{Meaning, Pair, TERM, Steady, calm, from, first_id, first_score, rest}
use Rattle.live.specs.Kept.{Stepped}
use Rattle.live.specs.Lists.{scores_in, scores_at}
use Rattle.combiner.proofs.Cells.{count_more}
use Rattle.refill.specs.Refills.{Sound, AllSound, Poured, Refilled}
use Rattle.live.proofs.Scores.{scores_gone, puts_append}
use Rattle.docset.proofs.Lists.{from_rest, from_all, rising_rest, settled}
use Rattle.live.proofs.Keeps.{at_part, set_part, part_all}
use Rattle.std.proofs.lemmas.List.{set-set}
use lib.Ieee.{Float}

-- on the way: d is the id last told, m0 the set at the start and m what is left of it
pub record Pouring (f : Tally → Float → Tally) (s h d : ℕ) (m0 m : Meaning) (a c : ℕ → Cell) : Type 0 where
  pub an_id : d ≤ TERM
  pub still : Sound m0 → Sound m
  pub list : Sound m0 → from h m.pairs ≡ from h m0.pairs
  pub tells : Sound m0 → d ≡ first_id m.pairs
  pub due : Sound m0 → (e : ℕ) → s + e < h → puts f (c e) (scores_in (s + e) m.pairs) ≡ puts f (a e) (scores_in (s + e) m0.pairs)
  pub outside : (e : ℕ) → h ≤ s + e → c e ≡ a e

-- the first i sets are read
pub record Filling (f : Tally → Float → Tally) (s h i : ℕ) (P Q : List Meaning) (a c : ℕ → Cell) : Type 0 where
  pub becomes : AllSound P → Q ≡ part h i P
  pub inside : AllSound P → (e : ℕ) → s + e < h → c e ≡ puts f (a e) (scores_at (s + e) (take i P))
  pub outside : (e : ℕ) → h ≤ s + e → c e ≡ a e

put_alike : (f : Tally → Float → Tally) (c : Cell) (x y : Float) → ((t : Tally) → f t x ≡ f t y) → put f c x ≡ put f c y
put_alike f none x y h = ap some (h _)
put_alike f (some t) x y h = ap some (h t)

-- the first pair put into its cell, or passed over below the window: what is due stays
due_put : (f : Tally → Float → Tally) (s : ℕ) (ps : List Pair) (x : Float) (a b : ℕ → Cell) → s ≤ first_id ps → first_id ps < TERM → ((t : Tally) → f t x ≡ f t (first_score ps)) → Put f a b (first_id ps - s) x
    → (e : ℕ) → puts f (b e) (scores_in (s + e) (rest ps)) ≡ puts f (a e) (scores_in (s + e) ps)
due_put f s [] x a b le lt h p e = absurd (omega arith)
due_put f s (q ∷ ps) x a b le lt h p e = ⊎_elim at_it (λ n. past_it n) (cases_eq e (q.id - s))
  where
    at_it : e ≡ q.id - s → puts f (b e) (scores_in (s + e) ps) ≡ puts f (a e) (scores_in (s + e) (q ∷ ps))
    at_it z =
        let t = eq-eqb q.id (s + e) (omega arith) in
        let o : b e ≡ put f (a e) q.score = ap b z ∙ p.here ∙ put_alike f (a (q.id - s)) x q.score h ∙ ap (λ k. put f (a k) q.score) (sym z) in
        rw t (ap (λ c. puts f c (scores_in (s + e) ps)) o)

    past_it : (e ≡ q.id - s → ⊥) → puts f (b e) (scores_in (s + e) ps) ≡ puts f (a e) (scores_in (s + e) (q ∷ ps))
    past_it n = let t = ne_eqb q.id (s + e) (λ z. omega (arith, n)) in let o = p.others e n in rw t (rw o)

due_skip : (s e : ℕ) (ps : List Pair) → first_id ps < s → scores_in (s + e) (rest ps) ≡ scores_in (s + e) ps
due_skip s e [] lt = refl
due_skip s e (p ∷ ps) lt = let n = ne_eqb p.id (s + e) (λ z. omega arith) in rw n

-- one turn: the cells c become c', the set m1 is scored (m2) and steps on (m3)
pub pouring_more : (f : Tally → Float → Tally) (s h d r : ℕ) (m0 m1 m2 m3 : Meaning) (a c b : ℕ → Cell) → d < h → h ≤ TERM
    → Pouring f s h d m0 m1 a c → (Steady m1 → m2 ≡ m1) → Stepped m2 m3 r
    → (Sound m1 → d ≡ first_id m1.pairs → (e : ℕ) → s + e < h → puts f (b e) (scores_in (s + e) (rest m1.pairs)) ≡ puts f (c e) (scores_in (s + e) m1.pairs))
    → ((e : ℕ) → h ≤ s + e → b e ≡ c e)
    → Pouring f s h r m0 m3 a b
pouring_more f s h d r m0 m1 m2 m3 a c b lt ht v k w due out = record {
  an_id = w.an_id;
  still = λ z. let F : Meaning → Type 0 = λ m. Sound m in subst F (sym (next z)) (refl, rising_rest m1.pairs (v.still z).1);
  list = λ z. ap (λ m. from h m.pairs) (next z) ∙ from_rest h m1.pairs (let t = v.tells z in omega arith) ∙ v.list z;
  tells = λ z. w.tells (sound2 z).0 ∙ ap (λ m. first_id (rest m.pairs)) (k (v.still z).0) ∙ ap (λ m. first_id m.pairs) (sym (next z));
  due = λ z e l. ap (λ m. puts f (b e) (scores_in (s + e) m.pairs)) (next z) ∙ due (v.still z) (v.tells z) e l ∙ v.due z e l;
  outside = λ e g. out e g ∙ v.outside e g;
}
  where
    sound2 : Sound m0 → Sound m2
    sound2 z = let F : Meaning → Type 0 = λ m. Sound m in subst F (sym (k (v.still z).0)) (v.still z)

    next : Sound m0 → m3 ≡ calm (rest m1.pairs)
    next z = w.becomes (sound2 z).0 (sound2 z).1 ∙ ap (λ m. calm (rest m.pairs)) (k (v.still z).0)

pub turn_put : (f : Tally → Float → Tally) (s h d : ℕ) (m1 : Meaning) (x : Float) (c b : ℕ → Cell) → s ≤ d → d < h → h ≤ TERM
    → (Steady m1 → (t : Tally) → f t x ≡ f t (first_score m1.pairs)) → Put f c b (d - s) x
    → Sound m1 → d ≡ first_id m1.pairs → (e : ℕ) → s + e < h → puts f (b e) (scores_in (s + e) (rest m1.pairs)) ≡ puts f (c e) (scores_in (s + e) m1.pairs)
turn_put f s h d m1 x c b le lt ht al p z q e l =
    let F : ℕ → Type 0 = λ k. Put f c b (k - s) x in
    due_put f s m1.pairs x c b (omega arith) (omega arith) (al z.0) (subst F q p) e

pub turn_skip : (f : Tally → Float → Tally) (s h d : ℕ) (m1 : Meaning) (c : ℕ → Cell) → d < s
    → Sound m1 → d ≡ first_id m1.pairs → (e : ℕ) → s + e < h → puts f (c e) (scores_in (s + e) (rest m1.pairs)) ≡ puts f (c e) (scores_in (s + e) m1.pairs)
turn_skip f s h d m1 c lt z q e l = ap (puts f (c e)) (due_skip s e m1.pairs (omega arith))

pub put_outside : (f : Tally → Float → Tally) (s h d : ℕ) (x : Float) (c b : ℕ → Cell) → s ≤ d → d < h → Put f c b (d - s) x → (e : ℕ) → h ≤ s + e → b e ≡ c e
put_outside f s h d x c b le lt p e g = p.others e (λ z. omega arith)

pub poured : (f : Tally → Float → Tally) (s h d : ℕ) (m0 m : Meaning) (a c : ℕ → Cell) → h ≤ d → Pouring f s h d m0 m a c → Poured f s h m0 m a c
poured f s h d m0 m a c le v = record {
  becomes = becomes;
  inside = λ z e l. sym (ap (puts f (c e)) (gone z e l)) ∙ v.due z e l;
  outside = v.outside;
}
  where
    left : Sound m0 → from h m0.pairs ≡ m.pairs
    left z = sym (v.list z) ∙ from_all h m.pairs (let t = v.tells z in omega arith)

    becomes : Sound m0 → m ≡ calm (from h m0.pairs)
    becomes z = settled m (from h m0.pairs) (v.still z).0 (sym (left z))

    gone : Sound m0 → (e : ℕ) → s + e < h → scores_in (s + e) m.pairs ≡ []
    gone z e l = ap (scores_in (s + e)) (sym (left z)) ∙ scores_gone h (s + e) m0.pairs z.1 l

-- what a turn does to the cells
pub record Turned (f : Tally → Float → Tally) (s h d : ℕ) (m1 : Meaning) (c b : ℕ → Cell) : Type 0 where
  pub due : Sound m1 → d ≡ first_id m1.pairs → (e : ℕ) → s + e < h → puts f (b e) (scores_in (s + e) (rest m1.pairs)) ≡ puts f (c e) (scores_in (s + e) m1.pairs)
  pub outside : (e : ℕ) → h ≤ s + e → b e ≡ c e
  pub more : count b 0 4096 ≤ suc (count c 0 4096)

pub turned_put : (f : Tally → Float → Tally) (s h d : ℕ) (m1 : Meaning) (x : Float) (c b : ℕ → Cell) → s ≤ d → d < h → h ≤ TERM
    → (Steady m1 → (t : Tally) → f t x ≡ f t (first_score m1.pairs)) → Put f c b (d - s) x → Turned f s h d m1 c b
turned_put f s h d m1 x c b le lt ht al p = record {
  due = turn_put f s h d m1 x c b le lt ht al p;
  outside = put_outside f s h d x c b le lt p;
  more = count_more c b (d - s) 0 4096 p.others;
}

pub turned_skip : (f : Tally → Float → Tally) (s h d : ℕ) (m1 : Meaning) (c : ℕ → Cell) → d < s → Turned f s h d m1 c c
turned_skip f s h d m1 c lt = record {
  due = turn_skip f s h d m1 c lt;
  outside = λ e g. refl;
  more = omega arith;
}

pub set_on : (ms ns os : List Meaning) (i : ℕ) (a b : Meaning) → ns ≡ set ms i a → os ≡ set ns i b → os ≡ set ms i b
set_on ms ns os i a b p q = q ∙ ap (λ xs. set xs i b) p ∙ set-set ms i a b

take_none : (i : ℕ) → take {A = Meaning} i [] ≡ []
take_none zero = refl
take_none (suc i) = refl

take_all : (n : ℕ) (P : List Meaning) → length P ≤ n → take n P ≡ P
take_all n [] le = take_none n
take_all zero (m ∷ ms) le = absurd (omega arith)
take_all (suc n) (m ∷ ms) le = ap (λ xs. m ∷ xs) (take_all n ms (omega arith))

scores_take : (d i : ℕ) (P : List Meaning) → scores_at d (take (suc i) P) ≡ scores_at d (take i P) ++ scores_in d (at P i).pairs
scores_take d i [] = let a = take_none i in rw a
scores_take d zero (m ∷ ms) = append-nil (scores_in d m.pairs)
scores_take d (suc i) (m ∷ ms) = ap (λ xs. scores_in d m.pairs ++ xs) (scores_take d i ms) ∙ sym (append_assoc (scores_in d m.pairs) (scores_at d (take i ms)) (scores_in d (at ms i).pairs))

pub sound_at : (P : List Meaning) (i : ℕ) → AllSound P → Sound (at P i)
sound_at [] i s = (refl, tt)
sound_at (m ∷ ms) zero s = (s.0.0, s.1.0)
sound_at (m ∷ ms) (suc i) s = sound_at ms i (s.0.1, s.1.1)

pub filling_none : (f : Tally → Float → Tally) (s h : ℕ) (P : List Meaning) (a : ℕ → Cell) → Filling f s h 0 P P a a
filling_none f s h P a = record { becomes = λ z. refl; inside = λ z e l. ap (λ x. puts f (a e) (scores_at (s + e) x)) (take_zero P); outside = λ e l. refl }
  where
    take_zero : (X : List Meaning) → [] ≡ take 0 X
    take_zero [] = refl
    take_zero (x ∷ xs) = refl

pub filling_more : (f : Tally → Float → Tally) (s h i : ℕ) (P Q R : List Meaning) (a c b : ℕ → Cell) → Filling f s h i P Q a c → Poured f s h (at Q i) (at R i) c b → R ≡ set Q i (at R i) → Filling f s h (i + 1) P R a b
filling_more f s h i P Q R a c b v p e = rw add-one (record {
  becomes = λ z. e ∙ ap (set Q i) (p.becomes (sound z) ∙ ap (λ m. calm (from h m.pairs)) (here z)) ∙ ap (λ X. set X i (calm (from h (at P i).pairs))) (v.becomes z) ∙ set_part h i P;
  inside = λ z k l. p.inside (sound z) k l ∙ ap (λ m. puts f (c k) (scores_in (s + k) m.pairs)) (here z) ∙ ap (λ x. puts f x (scores_in (s + k) (at P i).pairs)) (v.inside z k l)
      ∙ sym (puts_append f (a k) (scores_at (s + k) (take i P)) (scores_in (s + k) (at P i).pairs)) ∙ ap (puts f (a k)) (sym (scores_take (s + k) i P));
  outside = λ k l. p.outside k l ∙ v.outside k l;
})
  where
    here : AllSound P → at Q i ≡ at P i
    here z = ap (λ X. at X i) (v.becomes z) ∙ at_part h i P

    sound : AllSound P → Sound (at Q i)
    sound z = let F : Meaning → Type 0 = λ m. Sound m in subst F (sym (here z)) (sound_at P i z)

pub filling_all : (f : Tally → Float → Tally) (s h n : ℕ) (P Q : List Meaning) (a c : ℕ → Cell) → length P ≤ n → Filling f s h n P Q a c → Refilled f s h P Q a c
filling_all f s h n P Q a c le v = record {
  becomes = λ z. v.becomes z ∙ part_all h n P le;
  inside = λ z e l. v.inside z e l ∙ ap (λ X. puts f (a e) (scores_at (s + e) X)) (take_all n P le);
  outside = v.outside;
}
