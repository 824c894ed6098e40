-- Sets that are probed one after another for one id.
use Rattle.std.proofs.Common.{◌≡◌, ◌≢◌, ℕ, zero, suc, ◌+◌, ◌<◌, ◌≤◌, Bool, true, false, cond, ◌&&◌, ◌||◌, ltb, ◌⊎◌, List, [], ◌∷◌, map, length, get_or, drop, set, sym, refl, ap, ◌∙◌, subst, inl, inr, ⊎_elim, add-zero, zero-add, add-one, arith, drop_of_length-le}
use Rattle.std.proofs.lemmas.Bool.{and_parts, cases_cond, cases_lt}
use Rattle.std.proofs.lemmas.List.{length-map, get_or-map, get_or-drop, map-set, drop-map, drop_more, drop-set-lt}
use Rattle.docset.specs.Meaning.{Meaning, Mark, steady, astray, lost, Pair, TERM, Known, calm, from, has}
use Rattle.docset.specs.Calls.{Probed, Marks}
use Rattle.docset.specs.declared.docset.SeekDangerResult.{SeekDangerResult}
use Rattle.docset.specs.declared.docset.SeekDangerResult.TheVariants.{Found, SeekLowerBound}
use Rattle.docset.proofs.Lists.{steady_known, from_lt, from_ge, has_ne}
use Rattle.bank.specs.Places.{Rows, ahead, rows_of, at}
use Rattle.bank.specs.Holding.{is_known, held, all_known, AllKnown, reached, Trimmed, Trims, Untouched, Contained}

-- ---- known marks

pub is_then_known : (k : Mark) → is_known k ≡ true → Known k
is_then_known steady e = tt
is_then_known astray e = tt
is_then_known lost e = absurd (let z : ◌≡◌ {A = ℕ} 0 1 = cc in omega arith)

known_at : (ms : List Meaning) (i : ℕ) → AllKnown ms → Known (at ms i).mark
known_at [] i k = tt
known_at (m ∷ ms) zero k = is_then_known m.mark (and_parts (is_known m.mark) (all_known ms) k).0
known_at (m ∷ ms) (suc i) k = known_at ms i (and_parts (is_known m.mark) (all_known ms) k).1

-- ---- trimming

pub trims_same : (d : ℕ) (ms : List Meaning) → Trims d ms ms
trims_same d [] = tt
trims_same d (m ∷ ms) = (record { shrinks = omega arith; known = λ k. k; drops = λ k. inl refl }, trims_same d ms)

pub length_trims : (d : ℕ) (ms ns : List Meaning) → Trims d ms ns → length ns ≡ length ms
length_trims d [] [] t = refl
length_trims d [] (n ∷ ns) t = absurd t
length_trims d (m ∷ ms) [] t = absurd t
length_trims d (m ∷ ms) (n ∷ ns) t = ap suc (length_trims d ms ns t.1)

trims_set : (d : ℕ) (ms ns : List Meaning) (i : ℕ) (n : Meaning) → Trims d ms ns → Trimmed d (at ms i) n → Trims d ms (set ns i n)
trims_set d [] [] i n t h = tt
trims_set d [] (x ∷ ns) i n t h = absurd t
trims_set d (m ∷ ms) [] i n t h = absurd t
trims_set d (m ∷ ms) (x ∷ ns) zero n t h = (h, t.1)
trims_set d (m ∷ ms) (x ∷ ns) (suc i) n t h = (t.0, trims_set d ms ns i n t.1 h)

marks_known : (r : SeekDangerResult) (k : Mark) → Marks r k → Known k
marks_known Found k h = steady_known k h
marks_known (SeekLowerBound b) k h = h

-- a probe trims
pub trimmed : (d : ℕ) (m n : Meaning) (r : SeekDangerResult) → Probed d m n r → Trimmed d m n
trimmed d m n r h =
    record {
      shrinks = h.shrinks;
      known = λ k. marks_known r n.mark (h.answers k).marks;
      drops = λ k.
          ⊎_elim {C = (n.pairs ≡ m.pairs) ⊎ (n.pairs ≡ from d m.pairs)} inr inl
          (cases_cond (ltb d TERM) (from d m.pairs) m.pairs n.pairs (h.answers k).leaves);
    }

-- ---- the first set has the id

pub found_first :
    (d : ℕ) (m n : Meaning) (h i p q : ℕ) (rest : Rows) (r : SeekDangerResult) → r ≡ Found → Probed d m n r →
    Contained d (ahead m h p rest) (ahead n i q rest) true
found_first d m n h i p q rest r e o =
    let ms = rest.places in
    let a : Probed d m n Found = subst (λ (b : SeekDangerResult). Probed d m n b) e o in
    let told : AllKnown (m ∷ ms) → true ≡ has d m.pairs =
    λ k. (a.answers (is_then_known m.mark (and_parts (is_known m.mark) (all_known ms) k).0)).tells in
    record {
      answers = λ k. ap (λ (c : Bool). c || held d ms) (told k);
      trims = (trimmed d m n Found a, trims_same d ms);
      later = λ k.
          subst (λ (c : Bool). Untouched (suc (cond c 0 (reached d ms))) (ahead m h p rest) (ahead n i q rest)) (told k)
          (record { lists = refl; guesses = refl; costs = refl });
    }

-- ---- sets in a row, whose meanings are told by f

-- the first i of the sets es were probed and do not have d; the sets are now xs
pub record Probing {X : Type 0} (f : X → Meaning) (d : ℕ) (es xs : List X) (i : ℕ) : Type 0 where
  pub trims : Trims d (map f es) (map f xs)
  pub none : AllKnown (map f es) → held d (map f es) ≡ held d (drop i (map f es))
  pub far : AllKnown (map f es) → reached d (map f es) ≡ i + reached d (drop i (map f es))
  pub same : drop i xs ≡ drop i es

pub probing_starts : {X : Type 0} (f : X → Meaning) (d : ℕ) (es : List X) → Probing f d es es 0
probing_starts f d es =
    record { trims = trims_same d (map f es); none = λ k. refl; far = λ k. sym (zero-add _); same = refl }

-- the set to be probed next
drop_at : (ms : List Meaning) (i : ℕ) → i < length ms → drop i ms ≡ at ms i ∷ drop (suc i) ms
drop_at ms i h = rw (← add-one i) (drop_more ms i (calm []) h)

wide : {X : Type 0} (f : X → Meaning) (d : ℕ) (es xs : List X) (i : ℕ) → Probing f d es xs i → length xs ≡ length es
wide f d es xs i p =
    sym (length-map xs f) ∙ length_trims d (map f es) (map f xs) p.trims ∙ length-map es f

-- the set at i is as it was
here : {X : Type 0} (f : X → Meaning) (d : ℕ) (es xs : List X) (i : ℕ) (x : X) → Probing f d es xs i → get_or xs i x ≡ get_or es i x
here f d es xs i x p =
    let a : get_or (drop i xs) 0 x ≡ get_or xs i x = get_or-drop i xs 0 x ∙ ap (λ (k : ℕ). get_or xs k x) (add-zero i) in
    let b : get_or (drop i es) 0 x ≡ get_or es i x = get_or-drop i es 0 x ∙ ap (λ (k : ℕ). get_or es k x) (add-zero i) in
    sym a ∙ ap (λ (l : List _). get_or l 0 x) p.same ∙ b

-- what is known of the set at i before it is probed
probed_here :
    {X : Type 0} (f : X → Meaning) (d : ℕ) (es xs : List X) (i : ℕ) (x : X) (n : Meaning) (r : SeekDangerResult) →
    Probing f d es xs i → i < length es → Probed d (f (get_or xs i x)) n r → Probed d (at (map f es) i) n r
probed_here f d es xs i x n r p h q =
    subst (λ (m : Meaning). Probed d m n r) (ap f (here f d es xs i x p) ∙ sym (get_or-map f es i x (calm []) h)) q

held_at :
    (d : ℕ) (ms : List Meaning) (i : ℕ) → i < length ms → held d (drop i ms) ≡ (has d (at ms i).pairs || held d (drop (suc i) ms))
held_at d ms i h = ap (held d) (drop_at ms i h)

reached_at :
    (d : ℕ) (ms : List Meaning) (i : ℕ) → i < length ms →
    reached d (drop i ms) ≡ suc (cond (has d (at ms i).pairs) 0 (reached d (drop (suc i) ms)))
reached_at d ms i h = ap (reached d) (drop_at ms i h)

map_trims_set :
    {X : Type 0} (f : X → Meaning) (d : ℕ) (es xs : List X) (i : ℕ) (y : X) → Trims d (map f es) (map f xs) →
    Trimmed d (at (map f es) i) (f y) → Trims d (map f es) (map f (set xs i y))
map_trims_set f d es xs i y t h =
    subst (λ (ns : List Meaning). Trims d (map f es) ns) (sym (map-set f xs i y)) (trims_set d (map f es) (map f xs) i (f y) t h)

next_same :
    {X : Type 0} (es xs : List X) (i : ℕ) (x y : X) → length xs ≡ length es → i < length es → drop i xs ≡ drop i es →
    drop (suc i) (set xs i y) ≡ drop (suc i) es
next_same es xs i x y w h e =
    let a : drop i xs ≡ get_or xs i x ∷ drop (suc i) xs = rw (← add-one i) (drop_more xs i x (omega arith)) in
    let b : drop i es ≡ get_or es i x ∷ drop (suc i) es = rw (← add-one i) (drop_more es i x h) in
    drop-set-lt (suc i) xs i y (omega arith) ∙ ap (drop 1) (sym a ∙ e ∙ b)

-- one more set was probed, and does not have the id
pub probing_more :
    {X : Type 0} (f : X → Meaning) (d : ℕ) (es xs : List X) (i : ℕ) (x y : X) (r : SeekDangerResult) → Probing f d es xs i →
    i < length xs → r ≢ Found → Probed d (f (get_or xs i x)) (f y) r → Probing f d es (set xs i y) (suc i)
probing_more f d es xs i x y Found p h n q = absurd (n refl)
probing_more f d es xs i x y (SeekLowerBound b) p h n q =
    let w = wide f d es xs i p in
    let inside : i < length (map f es) = omega (arith, length-map es f) in
    let r = probed_here f d es xs i x (f y) (SeekLowerBound b) p (omega arith) q in
    let absent : AllKnown (map f es) → has d (at (map f es) i).pairs ≡ false =
    λ k. sym (r.answers (known_at (map f es) i k)).tells in
    record {
      trims = map_trims_set f d es xs i y p.trims (trimmed d (at (map f es) i) (f y) (SeekLowerBound b) r);
      none = λ k.
          p.none k ∙ held_at d (map f es) i inside ∙ ap (λ (c : Bool). c || held d (drop (suc i) (map f es))) (absent k);
      far = λ k.
          let e : reached d (drop i (map f es)) ≡ suc (reached d (drop (suc i) (map f es))) =
          reached_at d (map f es) i inside ∙
          ap (λ (c : Bool). suc (cond c 0 (reached d (drop (suc i) (map f es))))) (absent k) in
          omega (arith, p.far k);
      same = next_same es xs i x y w (omega arith) p.same;
    }

-- sets whose later part is as it was
untouched :
    {X : Type 0} (f : X → Meaning) (h p : X → ℕ) (es xs : List X) (j : ℕ) → drop j xs ≡ drop j es →
    Untouched j (rows_of f h p es) (rows_of f h p xs)
untouched f h p es xs j e =
    record {
      lists = drop-map f j xs ∙ ap (map f) e ∙ sym (drop-map f j es);
      guesses = drop-map h j xs ∙ ap (map h) e ∙ sym (drop-map h j es);
      costs = drop-map p j xs ∙ ap (map p) e ∙ sym (drop-map p j es);
    }

-- the set at i has the id
pub probing_found :
    {X : Type 0} (f : X → Meaning) (h p : X → ℕ) (d : ℕ) (es xs : List X) (i : ℕ) (x y : X) (r : SeekDangerResult) →
    Probing f d es xs i → i < length xs → r ≡ Found → Probed d (f (get_or xs i x)) (f y) r →
    Contained d (rows_of f h p es) (rows_of f h p (set xs i y)) true
probing_found f h p d es xs i x y a v l z o =
    let q : Probed d (f (get_or xs i x)) (f y) Found = subst (λ (b : SeekDangerResult). Probed d (f (get_or xs i x)) (f y) b) z o in
    let w = wide f d es xs i v in
    let inside : i < length (map f es) = omega (arith, length-map es f) in
    let r = probed_here f d es xs i x (f y) Found v (omega arith) q in
    let present : AllKnown (map f es) → has d (at (map f es) i).pairs ≡ true =
    λ k. sym (r.answers (known_at (map f es) i k)).tells in
    record {
      answers = λ k.
          sym
          (v.none k ∙ held_at d (map f es) i inside ∙ ap (λ (c : Bool). c || held d (drop (suc i) (map f es))) (present k));
      trims = map_trims_set f d es xs i y v.trims (trimmed d (at (map f es) i) (f y) Found r);
      later = λ k.
          let e : reached d (drop i (map f es)) ≡ 1 =
          reached_at d (map f es) i inside ∙
          ap (λ (c : Bool). suc (cond c 0 (reached d (drop (suc i) (map f es))))) (present k) in
          let j : suc i ≡ reached d (map f es) = omega (arith, v.far k) in
          subst
          (λ (k : ℕ). Untouched k (rows_of f h p es) (rows_of f h p (set xs i y)))
          j (untouched f h p es (set xs i y) (suc i) (next_same es xs i x y w (omega arith) v.same));
    }

-- no set has the id
pub probing_ends :
    {X : Type 0} (f : X → Meaning) (h p : X → ℕ) (d : ℕ) (es xs : List X) (i : ℕ) → Probing f d es xs i → length es ≡ i →
    Contained d (rows_of f h p es) (rows_of f h p xs) false
probing_ends f h p d es xs i v l =
    let past : drop i (map f es) ≡ [] = drop_of_length-le (map f es) {i = i} (omega (arith, length-map es f)) in
    record {
      answers = λ k. sym (v.none k ∙ ap (held d) past);
      trims = v.trims;
      later = λ k.
          let j : i ≡ reached d (map f es) = omega (arith, v.far k, ap (reached d) past) in
          subst (λ (k : ℕ). Untouched k (rows_of f h p es) (rows_of f h p xs)) j
          (untouched f h p es xs i v.same);
    }

-- ---- what a later question sees

-- an id that is not below d is listed after trimming at d exactly if it was before
has_from : (d e : ℕ) (ps : List Pair) → d ≤ e → has e (from d ps) ≡ has e ps
has_from d e [] h = refl
has_from d e (p ∷ ps) h =
    ⊎_elim {C = has e (from d (p ∷ ps)) ≡ has e (p ∷ ps)}
    (λ k. ap (has e) (from_lt d p ps k) ∙ has_from d e ps h ∙ sym (has_ne e p ps (λ z. omega arith)))
    (λ k. ap (has e) (from_ge d p ps k))
    (cases_lt p.id d)

pub held_later :
    (d e : ℕ) (ms ns : List Meaning) → d ≤ e → AllKnown ms → Trims d ms ns → held e ns ≡ held e ms
held_later d e [] [] h k t = refl
held_later d e [] (n ∷ ns) h k t = absurd t
held_later d e (m ∷ ms) [] h k t = absurd t
held_later d e (m ∷ ms) (n ∷ ns) h k t =
    let a = and_parts (is_known m.mark) (all_known ms) k in
    let one : has e n.pairs ≡ has e m.pairs =
    ⊎_elim (λ z. ap (has e) z) (λ z. ap (has e) z ∙ has_from d e m.pairs h)
    (t.0.drops (is_then_known m.mark a.0)) in
    ap (λ (c : Bool). c || held e ns) one ∙
    ap (λ (c : Bool). has e m.pairs || c) (held_later d e ms ns h a.1 t.1)

known_is : (k : Mark) → Known k → is_known k ≡ true
known_is steady h = refl
known_is astray h = refl
known_is lost h = absurd h

-- known marks stay known
pub known_later : (d : ℕ) (ms ns : List Meaning) → AllKnown ms → Trims d ms ns → AllKnown ns
known_later d [] [] k t = refl
known_later d [] (n ∷ ns) k t = absurd t
known_later d (m ∷ ms) [] k t = absurd t
known_later d (m ∷ ms) (n ∷ ns) k t =
    let a = and_parts (is_known m.mark) (all_known ms) k in
    ap (λ (c : Bool). c && all_known ns) (known_is n.mark (t.0.known (is_then_known m.mark a.0))) ∙
    known_later d ms ns a.1 t.1
