-- Loops that go on one document at a time: what holds at each turn.
use Rattle.std.proofs.Common.{◌≡◌, ℕ, zero, suc, ◌+◌, ◌-◌, ◌<◌, ◌≤◌, min, ◌⊎◌, List, [], ◌∷◌, ◌++◌, length, get_or, take, drop, set, sym, refl, ap, ◌∙◌, subst, inl, inr, ⊎_elim, le_of_suc-le-suc, not-suc-le-zero, arith, length-drop, length-set, drop_of_length-le, length-take-le, take_all}
use Rattle.docset.specs.Meaning.{Meaning, Pair, TERM, Steady, calm, ids, first_id, rest, from, Rising}
use Rattle.docset.specs.Bits.{weighed}
use Rattle.docset.specs.Calls.{Told, Moved, Sought, Filled}
use Rattle.docset.proofs.Lists.{settled, steady_known, ended, short, length_ids, rising_rest, from_rest, from_end}

-- ---- every walk

-- n is what some steps left of m, and stands at d
pub record Along (m n : Meaning) (d : ℕ) : Type 0 where
  pub an_id : d ≤ TERM
  pub shrinks : length n.pairs ≤ length m.pairs
  pub still : Steady m → Steady n
  pub rises : Steady m → Rising 0 n.pairs
  pub tells : Steady m → d ≡ first_id n.pairs

pub along_starts : (m : Meaning) (d : ℕ) → Told m d → Along m m d
along_starts m d h =
    record {
      an_id = h.an_id;
      shrinks = omega arith;
      still = λ s. s;
      rises = λ s. h.rises (steady_known m.mark s);
      tells = h.tells;
    }

pub along_steps : (m n o : Meaning) (d e : ℕ) → Along m n d → Moved n o e → Along m o e
along_steps m n o d e i h =
    record {
      an_id = h.an_id;
      shrinks = omega (arith, h.shrinks, i.shrinks);
      still = λ s. ap (λ (x : Meaning). x.mark) (h.becomes (i.still s));
      rises = λ s.
          subst (λ (x : Meaning). Rising 0 x.pairs) (sym (h.becomes (i.still s))) (rising_rest n.pairs (i.rises s));
      tells = λ s. h.tells (i.still s) ∙ ap (λ (x : Meaning). first_id x.pairs) (sym (h.becomes (i.still s)));
    }

-- the measure: what is listed, and one more until TERM is answered
abbrev pub ahead : Meaning → ℕ → ℕ
ahead m d = length m.pairs + min 1 (2147483647 - d)

pub falls : (m n : Meaning) (d e : ℕ) → d ≤ TERM → (d ≡ TERM → ⊥) → Moved m n e → ahead n e < ahead m d
falls m n d e a b h =
    ⊎_elim {C = ahead n e < ahead m d} (λ k. omega (arith, k, h.shrinks)) (λ k. omega (arith, k, h.shrinks)) h.drops

-- ---- seek

pub record Seeking (t : ℕ) (m n : Meaning) (d : ℕ) : Type 0 where
  pub along : Along m n d
  pub same : Steady m → from t n.pairs ≡ from t m.pairs

pub seek_starts : (t : ℕ) (m : Meaning) (d : ℕ) → Told m d → Seeking t m m d
seek_starts t m d h = record { along = along_starts m d h; same = λ s. refl }

pub seek_steps :
    (t : ℕ) (m n : Meaning) (d : ℕ) → Seeking t m n d → d < t → (o : Meaning) (e : ℕ) → Moved n o e → Seeking t m o e
seek_steps t m n d i lt o e h =
    record {
      along = along_steps m n o d e i.along h;
      same = λ s.
          ap (λ (x : Meaning). from t x.pairs) (h.becomes (i.along.still s)) ∙
          from_rest t n.pairs (omega (arith, i.along.tells s)) ∙
          i.same s;
    }

pub seek_ends :
    (t : ℕ) (m n : Meaning) (d : ℕ) → Seeking t m n d → (t ≤ d) ⊎ (d ≡ TERM) → Sought t m n d
seek_ends t m n d i o =
    let a = i.along in
    let at : Steady m → from t m.pairs ≡ n.pairs =
    λ s.
    sym (i.same s) ∙
    from_end t n.pairs (a.rises s) (⊎_elim (λ h. inl (omega (arith, a.tells s))) (λ h. inr (sym (a.tells s) ∙ h)) o) in
    record {
      an_id = a.an_id;
      shrinks = a.shrinks;
      becomes = λ s. settled n (from t m.pairs) (a.still s) (sym (at s));
      tells = λ s. a.tells s ∙ ap first_id (sym (at s));
    }

-- ---- counts

-- k is the weight of what was passed
pub record Counting (w : ℕ → ℕ) (m n : Meaning) (d k : ℕ) : Type 0 where
  pub along : Along m n d
  pub few : Steady m → k + ahead n d ≤ length m.pairs + 1
  pub small : Steady m → length m.pairs ≤ TERM
  pub total : Steady m → k + weighed w n.pairs ≡ weighed w m.pairs

pub count_starts : (w : ℕ → ℕ) (m : Meaning) (d : ℕ) → Told m d → Counting w m m d 0
count_starts w m d h =
    record {
      along = along_starts m d h;
      few = λ s. omega arith;
      small = λ s. short m.pairs (h.rises (steady_known m.mark s));
      total = λ s. omega arith;
    }

weighed_rest :
    (w : ℕ → ℕ) (ps : List Pair) → (first_id ps ≡ TERM → ⊥) → w (first_id ps) + weighed w (rest ps) ≡ weighed w ps
weighed_rest w [] h = absurd (h refl)
weighed_rest w (p ∷ ps) h = refl

pub count_ends :
    (w : ℕ → ℕ) (m n : Meaning) (d k : ℕ) → Counting w m n d k → d ≡ TERM → Steady m → k ≡ weighed w m.pairs
count_ends w m n d k i e s =
    let a = i.along in
    let z : weighed w n.pairs ≡ 0 = ap (weighed w) (ended 0 n.pairs (a.rises s) (sym (a.tells s) ∙ e)) in
    omega (arith, i.total s)

pub weighed_one : (ps : List Pair) → weighed (λ _. 1) ps ≡ length ps
weighed_one [] = refl
weighed_one (p ∷ ps) = omega (arith, weighed_one ps)

-- ---- blocks

-- i ids are written
pub record Filling (m n : Meaning) (old new : List ℕ) (i d : ℕ) : Type 0 where
  pub along : Along m n d
  pub at_most : i ≤ 64
  pub wide : length new ≡ 64
  pub drops : Steady m → n.pairs ≡ drop i m.pairs
  pub reach : Steady m → i ≤ length m.pairs
  pub writes : Steady m → new ≡ take i (ids m.pairs) ++ drop i old

pub fill_starts : (m : Meaning) (old : List ℕ) (d : ℕ) → length old ≡ 64 → Told m d → Filling m m old old 0 d
fill_starts m old d l h =
    record {
      along = along_starts m d h;
      at_most = omega arith;
      wide = l;
      drops = λ s. refl;
      reach = λ s. omega arith;
      writes = λ s. refl;
    }

-- one more place of the buffer
pub set_seam :
    (xs old : List ℕ) (i : ℕ) → i < length xs → i < length old →
    set (take i xs ++ drop i old) i (get_or xs i 0) ≡ take (suc i) xs ++ drop (suc i) old
set_seam [] old i h k = absurd (not-suc-le-zero h)
set_seam (x ∷ xs) [] i h k = absurd (not-suc-le-zero k)
set_seam (x ∷ xs) (o ∷ old) zero h k = refl
set_seam (x ∷ xs) (o ∷ old) (suc i) h k =
    ap (λ (r : List ℕ). x ∷ r) (set_seam xs old i (le_of_suc-le-suc h) (le_of_suc-le-suc k))

first_drop : (ps : List Pair) (i : ℕ) → (first_id (drop i ps) ≡ TERM → ⊥) → i < length ps
first_drop [] zero h = absurd (h refl)
first_drop [] (suc i) h = absurd (h refl)
first_drop (p ∷ ps) zero h = omega arith
first_drop (p ∷ ps) (suc i) h = omega (arith, first_drop ps i h)

pub first_at : (ps : List Pair) (i : ℕ) → i < length ps → first_id (drop i ps) ≡ get_or (ids ps) i 0
first_at [] i h = absurd (not-suc-le-zero h)
first_at (p ∷ ps) zero h = refl
first_at (p ∷ ps) (suc i) h = first_at ps i (le_of_suc-le-suc h)

pub rest_drop : (ps : List Pair) (i : ℕ) → rest (drop i ps) ≡ drop (suc i) ps
rest_drop [] zero = refl
rest_drop [] (suc i) = refl
rest_drop (p ∷ ps) zero = refl
rest_drop (p ∷ ps) (suc i) = rest_drop ps i

pub fill_steps :
    (m n : Meaning) (old new : List ℕ) (i d : ℕ) → length old ≡ 64 → Filling m n old new i d → i < 64 → (d ≡ TERM → ⊥) →
    (o : Meaning) (e : ℕ) → Moved n o e → Filling m o old (set new i d) (suc i) e
fill_steps m n old new i d lo f lt ne o e h =
    let a = f.along in
    let inside : Steady m → i < length m.pairs =
    λ s. first_drop m.pairs i (λ z. ne (a.tells s ∙ ap first_id (f.drops s) ∙ z)) in
    record {
      along = along_steps m n o d e a h;
      at_most = omega arith;
      wide = length-set new i d ∙ f.wide;
      drops = λ s.
          ap (λ (x : Meaning). x.pairs) (h.becomes (a.still s)) ∙ ap rest (f.drops s) ∙ rest_drop m.pairs i;
      reach = λ s. omega (arith, inside s);
      writes = λ s.
          let at : d ≡ get_or (ids m.pairs) i 0 = a.tells s ∙ ap first_id (f.drops s) ∙ first_at m.pairs i (inside s) in
          ap (λ (x : List ℕ). set x i d) (f.writes s) ∙
          ap (λ (x : ℕ). set (take i (ids m.pairs) ++ drop i old) i x) at ∙
          set_seam (ids m.pairs) old i (omega (arith, inside s, length_ids m.pairs)) (omega arith);
    }

-- where the walk stopped, 64 reaches no further
fill_stop :
    (m n : Meaning) (old new : List ℕ) (i d : ℕ) → Filling m n old new i d → (i ≡ 64) ⊎ (d ≡ TERM) →
    Steady m → (i ≡ 64) ⊎ (i ≡ length m.pairs)
fill_stop m n old new i d f (inl h) s = inl h
fill_stop m n old new i d f (inr h) s =
    let a = f.along in
    let e : drop i m.pairs ≡ [] = sym (f.drops s) ∙ ended 0 n.pairs (a.rises s) (sym (a.tells s) ∙ h) in
    inr (omega (arith, length-drop i m.pairs, ap length e, f.reach s))

take_either : {X : Type 0} (xs : List X) (i : ℕ) → i ≤ 64 → (i ≡ 64) ⊎ (i ≡ length xs) → take i xs ≡ take 64 xs
take_either xs i l (inl h) = ap (λ (k : ℕ). take k xs) h
take_either xs i l (inr h) = take_all i xs (omega arith) ∙ sym (take_all 64 xs (omega arith))

drop_either : {X : Type 0} (xs : List X) (i : ℕ) → i ≤ 64 → (i ≡ 64) ⊎ (i ≡ length xs) → drop i xs ≡ drop 64 xs
drop_either xs i l (inl h) = ap (λ (k : ℕ). drop k xs) h
drop_either xs i l (inr h) =
    drop_of_length-le xs {i = i} (omega arith) ∙ sym (drop_of_length-le xs {i = 64} (omega arith))

-- a block that wrote the first i ids and dropped them, where i is 64 or all
pub block_of :
    (m n : Meaning) (old new : List ℕ) (i : ℕ) → i ≤ 64 → length n.pairs ≤ length m.pairs →
    (Steady m → (i ≡ 64) ⊎ (i ≡ length m.pairs)) → (Steady m → i ≤ length m.pairs) →
    (Steady m → n ≡ calm (drop i m.pairs)) → (Steady m → new ≡ take i (ids m.pairs) ++ drop i old) →
    Filled m n old new i
block_of m n old new i le sh stop reach drops writes =
    record {
      at_most = le;
      shrinks = sh;
      becomes = λ s. drops s ∙ ap {B = Meaning} (λ (x : List Pair). calm x) (drop_either m.pairs i le (stop s));
      writes = λ s.
          let stop' : (i ≡ 64) ⊎ (i ≡ length (ids m.pairs)) =
          ⊎_elim (λ h. inl h) (λ h. inr (h ∙ sym (length_ids m.pairs))) (stop s) in
          writes s ∙ ap (λ (x : List ℕ). x ++ drop i old) (take_either (ids m.pairs) i le stop');
      tells = λ s.
          sym (length-take-le i m.pairs (reach s)) ∙ ap length (take_either m.pairs i le (stop s));
    }

pub fill_ends :
    (m n : Meaning) (old new : List ℕ) (i d : ℕ) → Filling m n old new i d → (i ≡ 64) ⊎ (d ≡ TERM) →
    Filled m n old new i
fill_ends m n old new i d f o =
    block_of m n old new i f.at_most f.along.shrinks (fill_stop m n old new i d f o) f.reach
    (λ s. settled n (drop i m.pairs) (f.along.still s) (f.drops s)) f.writes

pub fill_full :
    (m n : Meaning) (old new : List ℕ) (i d : ℕ) → Filling m n old new i d → i ≡ 64 → Filled m n old new 64
fill_full m n old new i d f e = subst (λ k. Filled m n old new k) e (fill_ends m n old new i d f (inl e))
