-- One entry read, one id gathered, and the next document of a threshold.
use Rattle.std.proofs.Common.{◌≡◌, ℕ, suc, ◌+◌, ◌<◌, ◌≤◌, min, Bool, true, false, cond, eqb, ltb, List, [], ◌∷◌, length, drop, set, sum_by, sym, refl, ap, ◌∙◌, subst, ⊎_elim, arith, length-append, get_or-drop, below_more, zero-add, add-one}
use lib.Ieee.{Float}
use Rattle.std.proofs.lemmas.List.Sums.{sum_by-cons}
use Rattle.std.proofs.lemmas.Bool.{lt-ltb, le-ltb, eqb-true, cases_lt}
use Rattle.docset.specs.Meaning.{Meaning, Pair, TERM, Steady, Rising, calm, rest, first_id, first_score}
use Rattle.docset.specs.Calls.{Told}
use Rattle.docset.proofs.Lists.{rising_rest, steady_known, ended}
use Rattle.combiner.specs.declared.score_combiner.Tally.{Tally}
use Rattle.combiner.specs.Scores.{start}
use Rattle.combiner.specs.Cells.{none, some, puts, entry}
use Rattle.bank.specs.Places.{at}
use Rattle.heap.specs.declared.order.Entry.{Entry}
use Rattle.live.specs.Sets.{empty, passed, lowest_of, AllSteady, AllRising}
use Rattle.live.specs.Kept.{none_left, Stepped}
use Rattle.live.specs.Lists.{scores_in, scores_at, united, sifted, threshold_list}
use Rattle.live.proofs.Keeps.{set_at, steady_at, rising_all}
use Rattle.live.proofs.Scores.{scores_low, at_low}
use Rattle.live.proofs.Passed.{rising_at, steady_set, rising_set, lowest_step_up, passed_twice, passed_high, passed_none, lowest_passed, passed_step}
use Rattle.live.proofs.Thresholds.{scores_step, sifted_none, threshold_step, threshold_none}
use Rattle.threshold.specs.Entries.{entry_of, weight, weights, Ready, Taken, Gathered}
use Rattle.threshold.specs.State.{standing, Comes}
use Rattle.threshold.proofs.Sums.{weights_set, weights_drop, each_zero}
use Rattle.threshold.proofs.Tops.{Least, least_before, least_lowest, none_top, none_lowest}

-- ---- one entry read

-- the entry of a set that has told r
abbrev pub coming : (Entry → ℕ) → ℕ → ℕ → ℕ
coming f k r = cond (ltb r TERM) (f (record { id = r; place = k })) 0

pub coming_none : (f : Entry → ℕ) (k r a b c : ℕ) → r ≡ TERM → a + b ≡ c → a + b ≡ c + coming f k r
coming_none f k r a b c e h = let t = le-ltb r TERM (omega arith) in rw t (omega arith)

pub coming_some : (f : Entry → ℕ) (k r a b c : ℕ) → r < TERM → a + b ≡ c + f (record { id = r; place = k }) → a + b ≡ c + coming f k r
coming_some f k r a b c l h = let t = lt-ltb r TERM l in rw t h

weight_coming : (f : Entry → ℕ) (k : ℕ) (ps : List Pair) → Rising 0 ps → weight f k (calm ps) ≡ coming f k (first_id ps)
weight_coming f k [] r = refl
weight_coming f k (p ∷ ps) r = let t = lt-ltb p.id TERM r.1 in rw t

weight_top : (f : Entry → ℕ) (P : List Meaning) (e : Entry) → Least P e → weight f e.place (at P e.place) ≡ f e
weight_top f P e v =
    let s = v.some in
    let q : entry_of e.place (at P e.place) ≡ e = ap {B = Entry} (λ x. record { id = x; place = e.place }) (sym v.here) in
    ap (λ b. cond b 0 (f (entry_of e.place (at P e.place)))) s ∙ ap f q

pub taken_by :
    (step : Tally → Float → Tally) (e : Entry) (P K Q : List Meaning) (E F : List Entry) (t u : Tally) (x : Float) (r : ℕ) →
    (Ready P E → Least P e) →
    (Steady (at P e.place) → at K e.place ≡ at P e.place) →
    (Steady (at P e.place) → (w : Tally) → step w x ≡ step w (first_score (at P e.place).pairs)) →
    K ≡ set P e.place (at K e.place) →
    Stepped (at K e.place) (at Q e.place) r → Q ≡ set K e.place (at Q e.place) →
    u ≡ step t x →
    ((f : Entry → ℕ) → sum_by f F + f e ≡ sum_by f E + coming f e.place r) →
    Taken step e P Q E F t u
taken_by step e P K Q E F t u x r least same alike others v others2 q sums = record {
  ready = λ y. record {
    steady = subst AllSteady (sym (moves y)) (steady_set P k (calm (rest (at P k).pairs)) y.steady refl);
    rises = subst AllRising (sym (moves y)) (rising_set P k (calm (rest (at P k).pairs)) y.rises (up y));
    counts = λ f.
        let b = rw zero-add at (weights_set f 0 k P (calm (rest (at P k).pairs)) (least y).inside) in
        let c = weight_top f P e (least y) in
        let d = weight_coming f k (rest (at P k).pairs) (up y) ∙ ap (coming f k) (sym (tells y)) in
        let s = sums f in
        let w = y.counts f in
        let m = ap (weights f 0) (moves y) in
        omega arith;
  };
  moves = moves;
  takes = λ y. q ∙ alike (steady_at P k y.steady) t;
}
  where
    k : ℕ
    k = e.place

    first_same : Ready P E → K ≡ P
    first_same y = others ∙ ap (set P e.place) (same (steady_at P e.place y.steady)) ∙ sym (set_at P e.place)

    here : Ready P E → at K e.place ≡ at P e.place
    here y = same (steady_at P e.place y.steady)

    up : Ready P E → Rising 0 (rest (at P e.place).pairs)
    up y = rising_rest (at P e.place).pairs (rising_at P e.place y.rises)

    becomes : Ready P E → at Q e.place ≡ calm (rest (at P e.place).pairs)
    becomes y =
        let s = steady_at P e.place y.steady in
        let U : Meaning → Type 0 = λ m. Rising 0 m.pairs in
        v.becomes (subst Steady (sym (here y)) s) (subst U (sym (here y)) (rising_at P e.place y.rises)) ∙ ap (λ m. calm (rest m.pairs)) (here y)

    tells : Ready P E → r ≡ first_id (rest (at P e.place).pairs)
    tells y = v.tells (subst Steady (sym (here y)) (steady_at P e.place y.steady)) ∙ ap (λ m. first_id (rest m.pairs)) (here y)

    moves : Ready P E → Q ≡ set P e.place (calm (rest (at P e.place).pairs))
    moves y = others2 ∙ ap (set K e.place) (becomes y) ∙ ap (λ X. set X e.place (calm (rest (at P e.place).pairs))) (first_same y)

-- ---- one id gathered

-- no id has more scores than there are sets with something left
one_score : (d lo : ℕ) (ps : List Pair) → Rising lo ps → length (scores_in d ps) ≤ 1
one_score d lo [] r = omega arith
one_score d lo (p ∷ ps) r = go (eqb p.id d) refl (one_score d (suc p.id) ps r.2)
  where
    go : (b : Bool) → eqb p.id d ≡ b → length (scores_in d ps) ≤ 1 → length (cond b (p.score ∷ scores_in d ps) (scores_in d ps)) ≤ 1
    go true e ih = let q = eqb-true p.id d e in let z = ap length (scores_low d (suc p.id) ps (omega arith) r.2) in omega arith
    go false e ih = ih

few_in : (d k : ℕ) (m : Meaning) → Rising 0 m.pairs → length (scores_in d m.pairs) ≤ weight (λ x. 1) k m
few_in d k m r = go m.pairs r
  where
    go : (ps : List Pair) → Rising 0 ps → length (scores_in d ps) ≤ cond (none_left ps) 0 1
    go [] u = omega arith
    go (p ∷ ps) u = one_score d 0 (p ∷ ps) u

pub few_scores : (d k : ℕ) (ms : List Meaning) → AllRising ms → length (scores_at d ms) ≤ weights (λ x. 1) k ms
few_scores d k [] r = omega arith
few_scores d k (m ∷ ms) r =
    omega (arith, length-append (scores_in d m.pairs) (scores_at d ms), few_in d k m r.0, few_scores d (suc k) ms r.1)

length_sum : (es : List Entry) → sum_by (λ x. 1) es ≡ length es
length_sum [] = refl
length_sum (e ∷ es) = let a = sum_by-cons (λ (x : Entry). 1) e es in let b = length_sum es in omega arith

-- no more than there are entries
pub few_entries : (d : ℕ) (P : List Meaning) (E : List Entry) → Ready P E → length (scores_at d P) ≤ length E
few_entries d P E y = let a = few_scores d 0 P y.rises in let b = y.counts (λ x. 1) in let c = length_sum E in omega arith

-- some of the sets that list d are read past it: n sets, whose scores come to the tally t
pub record Gathering (step : Tally → Float → Tally) (d : ℕ) (P Q : List Meaning) (E F : List Entry) (n : ℕ) (t : Tally) : Type 0 where
  pub ready : Ready P E → Ready Q F
  pub lowest : Ready P E → d ≡ lowest_of P
  pub an_id : Ready P E → d < TERM
  pub low : Ready P E → d ≤ lowest_of Q
  pub reads : Ready P E → passed (suc d) Q ≡ passed (suc d) P
  pub counts : Ready P E → n + length (scores_at d Q) ≡ length (scores_at d P)
  pub tallies : Ready P E → puts step (some t) (scores_at d Q) ≡ united step P d

-- the top is read
record Step (step : Tally → Float → Tally) (d : ℕ) (P Q : List Meaning) (t u : Tally) : Type 0 where
  scores : (x : Float) × (scores_at d P ≡ x ∷ scores_at d Q) × (u ≡ step t x)
  reads : passed (suc d) Q ≡ passed (suc d) P
  low : d ≤ lowest_of Q

stepped : (step : Tally → Float → Tally) (e : Entry) (P Q : List Meaning) (E F : List Entry) (t u : Tally) → Ready P E → Least P e → Taken step e P Q E F t u → Step step e.id P Q t u
stepped step e P Q E F t u y v w =
    let k : ℕ = e.place in
    let l = least_lowest P E e y v in
    let m = w.moves y in
    record {
      scores = (
        first_score (at P k).pairs,
        scores_step e.id P k y.rises l.1 (sym v.here) (least_before P e l.1 v) ∙ ap (λ X. first_score (at P k).pairs ∷ scores_at e.id X) (sym m),
        w.takes y,
      );
      reads = ap (passed (suc e.id)) m ∙ passed_step (suc e.id) P k (let h = v.here in omega arith);
      low = let a = lowest_step_up P k y.rises in let b = l.0 in let c = ap lowest_of m in omega arith;
    }

pub gathering_start :
    (step : Tally → Float → Tally) (e : Entry) (P : List Meaning) (E : List Entry) → (Ready P E → Least P e) → Gathering step e.id P P E E 0 start
gathering_start step e P E least = record {
  ready = λ y. y;
  lowest = λ y. (least_lowest P E e y (least y)).0;
  an_id = λ y. (least_lowest P E e y (least y)).1;
  low = λ y. let a = (least_lowest P E e y (least y)).0 in omega arith;
  reads = λ y. refl;
  counts = λ y. omega arith;
  tallies = λ y.
      let v = least y in
      let l = least_lowest P E e y v in
      let q = scores_step e.id P e.place y.rises l.1 (sym v.here) (least_before P e l.1 v) in
      ap (puts step (some start)) q ∙ ap (puts step none) (sym q);
}

pub gathering_more :
    (step : Tally → Float → Tally) (d : ℕ) (e : Entry) (P Q R : List Meaning) (E F G : List Entry) (n m : ℕ) (t u : Tally) →
    length E ≤ 32 → e.id ≡ d → m ≡ min (n + 1) 18446744073709551615 →
    Gathering step d P Q E F n t → (Ready Q F → Least Q e) → Taken step e Q R F G t u → Gathering step d P R E G m u
gathering_more step d e P Q R E F G n m t u short q sat v least w = record {
  ready = λ y. w.ready (v.ready y);
  lowest = v.lowest;
  an_id = v.an_id;
  low = λ y. (one y).low;
  reads = λ y. (one y).reads ∙ v.reads y;
  counts = λ y. let a = ap length (one y).scores.1 in let b = v.counts y in let c = few_entries d P E y in omega arith;
  tallies = λ y.
      ap (λ z. puts step (some z) (scores_at d R)) (one y).scores.2 ∙ ap (puts step (some t)) (sym (one y).scores.1) ∙ v.tallies y;
}
  where
    one : Ready P E → Step step d Q R t u
    one y =
        let z = v.ready y in
        let S : ℕ → Type 0 = λ i. Step step i Q R t u in
        subst S q (stepped step e Q R F G t u z (least z) w)

-- no set stands at d any more
pub gathered :
    (step : Tally → Float → Tally) (d : ℕ) (P Q : List Meaning) (E F : List Entry) (n : ℕ) (t : Tally) →
    Gathering step d P Q E F n t → (Ready Q F → (d ≡ lowest_of Q → ⊥)) → Gathered step d P Q E F n t
gathered step d P Q E F n t v ne = record {
  ready = v.ready;
  lowest = v.lowest;
  reads = λ y. sym (passed_high (suc d) Q (v.ready y).steady (past y)) ∙ v.reads y;
  counts = λ y. let a = v.counts y in let b = ap length (none_here y) in omega arith;
  tallies = λ y. sym (v.tallies y) ∙ ap (puts step (some t)) (none_here y);
}
  where
    past : Ready P E → suc d ≤ lowest_of Q
    past y = let l = v.low y in let z = ne (v.ready y) in omega (arith, z)

    none_here : Ready P E → scores_at d Q ≡ []
    none_here y = at_low d Q (v.ready y).rises (let p = past y in omega arith)

-- ---- the next document

pub record Searching (least : ℕ) (step : Tally → Float → Tally) (tell : Tally → Float) (P Q : List Meaning) (E F : List Entry) : Type 0 where
  pub ready : Ready P E → Ready Q F
  pub reads : Ready P E → (h : ℕ) → lowest_of Q ≤ h → passed (suc h) Q ≡ passed (suc h) P
  pub list : Ready P E → threshold_list least step tell Q ≡ threshold_list least step tell P

pub sift_few : (least : ℕ) (step : Tally → Float → Tally) (P : List Meaning) (d : ℕ) → length (scores_at d P) < least → sifted least step P d ≡ none
sift_few least step P d l = let t = lt-ltb (length (scores_at d P)) least l in rw t

sift_enough : (least : ℕ) (step : Tally → Float → Tally) (P : List Meaning) (d : ℕ) → least ≤ length (scores_at d P) → sifted least step P d ≡ united step P d
sift_enough least step P d l = let t = le-ltb (length (scores_at d P)) least l in rw t

module _ (least : ℕ) (step : Tally → Float → Tally) (tell : Tally → Float) (P Q R : List Meaning) (E F G : List Entry) (d n : ℕ) (t : Tally)
    (v : Searching least step tell P Q E F) (lt : d < TERM) (w : Gathered step d Q R F G n t) where
  next : Ready P E → threshold_list least step tell Q ≡ entry tell d (sifted least step Q d) (threshold_list least step tell R)
  next y =
      let z = v.ready y in
      let l = w.lowest z in
      threshold_step least step tell Q z.rises (omega arith)
      ∙ ap (λ i. entry tell i (sifted least step Q i) (threshold_list least step tell (passed (suc i) Q))) (sym l)
      ∙ ap (λ X. entry tell d (sifted least step Q d) (threshold_list least step tell X)) (sym (w.reads z))

  read_on : Ready P E → (h : ℕ) → d ≤ h → passed (suc h) R ≡ passed (suc h) P
  read_on y h le =
      let z = v.ready y in
      let l = w.lowest z in
      ap (passed (suc h)) (w.reads z) ∙ passed_twice (suc d) (suc h) Q (omega arith) ∙ v.reads y h (omega arith)

  -- too few sets list the lowest id
  pub searching_more : n < least → Searching least step tell P R E G
  searching_more few = record {
    ready = λ y. w.ready (v.ready y);
    reads = λ y h le. read_on y h (
        let z = v.ready y in
        let a = lowest_passed (suc d) Q (omega arith) in
        let b = ap lowest_of (w.reads z) in
        omega arith);
    list = λ y.
        let z = v.ready y in
        sym (next y ∙ ap (λ c. entry tell d c (threshold_list least step tell R)) (sift_few least step Q d (let a = w.counts z in omega arith))) ∙ v.list y;
  }

  -- enough do
  pub comes_found : least ≤ n → (x : Float) → x ≡ tell t → Comes least step tell P R E G d x
  unfolding standing
  comes_found enough x q = record {
    ready = λ y. w.ready (v.ready y);
    reads = λ y.
        let z = v.ready y in
        let a = lowest_passed (suc d) Q (omega arith) in
        let b = ap lowest_of (w.reads z) in
        sym (passed_high (suc d) R (w.ready z).steady (omega arith)) ∙ read_on y d (omega arith);
    list = λ y.
        let z = v.ready y in
        let b = lt-ltb d TERM lt in
        ap (λ c. cond c (record { id = d; score = x } ∷ threshold_list least step tell R) []) b
        ∙ ap (λ (s : Float). record { id = d; score = s } ∷ threshold_list least step tell R) q
        ∙ sym (next y ∙ ap (λ c. entry tell d c (threshold_list least step tell R)) (sift_enough least step Q d (let a = w.counts z in omega arith) ∙ w.tallies z))
        ∙ v.list y;
  }

-- no set has anything left
pub comes_none :
    (least : ℕ) (step : Tally → Float → Tally) (tell : Tally → Float) (P Q : List Meaning) (E F : List Entry) (x : Float) → F ≡ [] →
    Searching least step tell P Q E F → Comes least step tell P Q E F TERM x
unfolding standing
comes_none least step tell P Q E F x e v = record {
  ready = v.ready;
  reads = λ y. sym (passed_none (suc TERM) Q (gone y)) ∙ v.reads y TERM (let l = none_lowest Q (gone y) in omega arith);
  list = λ y. sym (threshold_none least step tell Q (λ d l. sifted_none least step Q d (at_low d Q (v.ready y).rises (let a = none_lowest Q (gone y) in omega arith)))) ∙ v.list y;
}
  where
    gone : Ready P E → (k : ℕ) → k < length Q → at Q k ≡ empty
    gone y = none_top Q F (v.ready y) (ap (sum_by (λ x. 1)) e)

-- nothing stands at an id where no entry is left
pub none_at : (d : ℕ) (Q : List Meaning) (F : List Entry) → d < TERM → F ≡ [] → Ready Q F → d ≡ lowest_of Q → ⊥
none_at d Q F l e y q = let a = none_lowest Q (none_top Q F y (ap (sum_by (λ x. 1)) e)) in omega arith

-- nor where the top has another
pub other_top : (d : ℕ) (Q : List Meaning) (F : List Entry) (e : Entry) → (e.id ≡ d → ⊥) → (Ready Q F → Least Q e) → Ready Q F → d ≡ lowest_of Q → ⊥
other_top d Q F e ne least y q = ne ((least_lowest Q F e y (least y)).0 ∙ sym q)

-- ---- the entries of all sets

-- the sets before place i have their entries in E
pub record Loading (P : List Meaning) (E : List Entry) (i : ℕ) : Type 0 where
  pub rises : AllSteady P → (k : ℕ) → k < i → Rising 0 (at P k).pairs
  pub counts : AllSteady P → (f : Entry → ℕ) → sum_by f E + weights f i (drop i P) ≡ weights f 0 P

loading_by :
    (P : List Meaning) (E F : List Entry) (i d : ℕ) → Told (at P i) d → Loading P E i →
    (Steady (at P i) → (f : Entry → ℕ) → sum_by f F ≡ weight f i (at P i) + sum_by f E) → Loading P F (i + 1)
loading_by P E F i d t v h = record {
  rises = λ s. below_more _ _ (v.rises s) (t.rises (steady_known (at P i).mark (steady_at P i s)));
  counts = λ s f.
      rw add-one (
      let a = rw zero-add at (weights_drop f 0 i P) in
      let b = h (steady_at P i s) f in
      let c = v.counts s f in
      omega arith);
}

pub loading_ended : (P : List Meaning) (E : List Entry) (i d : ℕ) → Told (at P i) d → d ≡ TERM → Loading P E i → Loading P E (i + 1)
loading_ended P E i d t e v = loading_by P E E i d t v (λ s f.
    let q : (at P i).pairs ≡ [] = ended 0 (at P i).pairs (t.rises (steady_known (at P i).mark s)) (sym (t.tells s) ∙ e) in
    let w : weight f i (at P i) ≡ 0 = ap (λ ps. cond (none_left ps) 0 (f (record { id = first_id ps; place = i }))) q in
    omega arith)

some_left : (ps : List Pair) → first_id ps < TERM → none_left ps ≡ false
some_left [] l = absurd (omega arith)
some_left (p ∷ ps) l = refl

pub loading_more :
    (P : List Meaning) (E F : List Entry) (i d : ℕ) → Told (at P i) d → d < TERM →
    ((f : Entry → ℕ) → sum_by f F ≡ f (record { id = d; place = i }) + sum_by f E) → Loading P E i → Loading P F (i + 1)
loading_more P E F i d t l h v = loading_by P E F i d t v (λ s f.
    let q = t.tells s in
    let b = some_left (at P i).pairs (omega arith) in
    h f ∙ ap (λ (x : ℕ). f (record { id = x; place = i }) + sum_by f E) q
    ∙ ap (λ (c : Bool). cond c 0 (f (entry_of i (at P i))) + sum_by f E) (sym b))

pub loaded :
    (P : List Meaning) (E : List Entry) (i : ℕ) → Loading P E i → AllSteady P → ((k : ℕ) → i ≤ k → at P k ≡ empty) → Ready P E
loaded P E i v s h = record {
  steady = s;
  rises = rising_all P (λ k l. ⊎_elim (v.rises s k) (λ g. let U : Meaning → Type 0 = λ m. Rising 0 m.pairs in subst U (sym (h k g)) tt) (cases_lt k i));
  counts = λ f. let a = v.counts s f in let b = behind f i P h in omega arith;
}
  where
    behind : (f : Entry → ℕ) (j : ℕ) (X : List Meaning) → ((k : ℕ) → j ≤ k → at X k ≡ empty) → weights f j (drop j X) ≡ 0
    behind f j X e = each_zero f j (drop j X) (λ m l. ap (weight f (j + m)) (get_or-drop j X m (calm []) ∙ e (j + m) (omega arith)))
