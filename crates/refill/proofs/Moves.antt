-- One step of a union, and a window opened.
use Rattle.std.proofs.Common.{◌≡◌, ℕ, suc, ◌+◌, ◌-◌, ◌<◌, ◌≤◌, true, false, ◌⊎◌, List, [], ◌∷◌, length, replicate, sym, refl, ap, ◌∙◌, subst, inl, inr, ⊎_elim, arith, le-ltb, lt-ltb}
use lib.Ieee.{Float}
use lib.ListN.{length-replicate}
use Rattle.combiner.specs.declared.score_combiner.Tally.{Tally}
use Rattle.combiner.specs.Cells.{Cell, none, listed, count}
use Rattle.window.specs.Windows.{Next, Ended}
use Rattle.std.proofs.lemmas.Bool.{cases_lt, cases_Bool}
use Rattle.docset.specs.Meaning.{lost, Meaning, Pair, TERM, Steady, Known, Rising, calm, first_id, first_score, zero_score, rest}
use Rattle.docset.specs.Calls.{Told, Moved, Scored}
use Rattle.live.specs.Sets.{lowest_of, AllSteady, AllRising}
use Rattle.live.specs.Lists.{united, union_list}
use Rattle.refill.specs.Refills.{AllSound, Refilled, reach}
use Rattle.refill.specs.State.{settled, bound, ahead, standing, on, union_meaning, Opened}
use Rattle.combiner.proofs.Cells.{count_none, listed_none, listed_rises, length_listed, count_less}
use Rattle.refill.proofs.States.{pop_list, union_low, spent_list, filled_list, filled_some, settled_passed, settled_is, settled_by, bound_on, bound_end}
use Rattle.live.proofs.Thresholds.{total}
use Rattle.refill.proofs.Lengths.{ahead_small}

pub is_calm : (f : Tally → Float → Tally) (tell : Tally → Float) (s doc : ℕ) (x : Float) (a : ℕ → Cell) (ms : List Meaning) (cr : ℕ) → settled (bound s doc) ms ≡ true → union_meaning f tell s doc x a ms cr ≡ calm (standing tell (ahead f s a ms) doc x)
unfolding union_meaning
is_calm f tell s doc x a ms cr e = rw e

pub is_lost : (f : Tally → Float → Tally) (tell : Tally → Float) (s doc : ℕ) (x : Float) (a : ℕ → Cell) (ms : List Meaning) (cr : ℕ) → settled (bound s doc) ms ≡ false
    → union_meaning f tell s doc x a ms cr ≡ record { pairs = replicate (on doc + count a 0 4096 + cr) (record { id = doc; score = x }); mark = lost }
unfolding union_meaning
is_lost f tell s doc x a ms cr e = rw e

pub lost_length : (f : Tally → Float → Tally) (tell : Tally → Float) (s doc : ℕ) (x : Float) (a : ℕ → Cell) (ms : List Meaning) (cr : ℕ) → settled (bound s doc) ms ≡ false
    → length (union_meaning f tell s doc x a ms cr).pairs ≡ on doc + count a 0 4096 + cr
lost_length f tell s doc x a ms cr e = ap (λ m. length m.pairs) (is_lost f tell s doc x a ms cr e) ∙ length-replicate (on doc + count a 0 4096 + cr) (record { id = doc; score = x })

pub is_settled : (f : Tally → Float → Tally) (tell : Tally → Float) (s doc : ℕ) (x : Float) (a : ℕ → Cell) (ms : List Meaning) (cr : ℕ) → Steady (union_meaning f tell s doc x a ms cr) → settled (bound s doc) ms ≡ true
is_settled f tell s doc x a ms cr st = ⊎_elim (λ e. e) (λ e. absurd (let p = ap (λ m. m.mark) (is_lost f tell s doc x a ms cr e) in let z : ◌≡◌ {A = ℕ} 0 1 = cc in omega arith)) (cases_Bool (settled (bound s doc) ms))

pub stands : (tell : Tally → Float) (c : ℕ → Cell) (doc : ℕ) (x : Float) → doc < TERM → standing tell c doc x ≡ record { id = doc; score = x } ∷ listed tell c (suc doc) (TERM - suc doc)
unfolding standing
stands tell c doc x lt = let t = lt-ltb doc TERM lt in rw t

pub ended : (tell : Tally → Float) (c : ℕ → Cell) (doc : ℕ) (x : Float) → TERM ≤ doc → standing tell c doc x ≡ []
unfolding standing
ended tell c doc x le = let t = le-ltb doc TERM le in rw t

pub on_one : (doc : ℕ) → doc < TERM → on doc ≡ 1
on_one doc lt = let t = lt-ltb doc TERM lt in rw t

standing_first : (tell : Tally → Float) (c : ℕ → Cell) (doc : ℕ) (x : Float) → doc ≤ TERM → doc ≡ first_id (standing tell c doc x)
standing_first tell c doc x le = ⊎_elim (λ lt. ap first_id (sym (stands tell c doc x lt))) (λ ge. let q : doc ≡ TERM = omega arith in q ∙ ap first_id (sym (ended tell c doc x ge))) (cases_lt doc TERM)

pub first_is : (f : Tally → Float → Tally) (tell : Tally → Float) (s doc : ℕ) (x : Float) (a : ℕ → Cell) (ms : List Meaning) (cr : ℕ) → doc ≤ TERM → Steady (union_meaning f tell s doc x a ms cr) → doc ≡ first_id (union_meaning f tell s doc x a ms cr).pairs
first_is f tell s doc x a ms cr le st =
    let e = is_calm f tell s doc x a ms cr (is_settled f tell s doc x a ms cr st) in
    standing_first tell (ahead f s a ms) doc x le ∙ ap (λ m. first_id m.pairs) (sym e)

pub standing_rises : (tell : Tally → Float) (c : ℕ → Cell) (doc : ℕ) (x : Float) → Rising 0 (standing tell c doc x)
standing_rises tell c doc x = ⊎_elim one none_left (cases_lt doc TERM)
  where
    F : List Pair → Type 0
    F ps = Rising 0 ps

    one : doc < TERM → Rising 0 (standing tell c doc x)
    one lt = subst F (sym (stands tell c doc x lt)) (omega arith, lt, listed_rises tell c (suc doc) (TERM - suc doc) (omega arith))

    none_left : TERM ≤ doc → Rising 0 (standing tell c doc x)
    none_left ge = subst F (sym (ended tell c doc x ge)) tt

pub told : (f : Tally → Float → Tally) (tell : Tally → Float) (s doc : ℕ) (x : Float) (a : ℕ → Cell) (ms : List Meaning) (cr : ℕ) → doc ≤ TERM → Told (union_meaning f tell s doc x a ms cr) doc
told f tell s doc x a ms cr le = record {
  an_id = le;
  rises = λ k. ⊎_elim
      (λ e. let F : Meaning → Type 0 = λ m. Rising 0 m.pairs in subst F (sym (is_calm f tell s doc x a ms cr e)) (standing_rises tell (ahead f s a ms) doc x))
      (λ e. absurd (subst (λ (m : Meaning). Known m.mark) (is_lost f tell s doc x a ms cr e) k))
      (cases_Bool (settled (bound s doc) ms));
  tells = first_is f tell s doc x a ms cr le;
}

-- no longer than what a set that is not settled is promised
pub small : (f : Tally → Float → Tally) (tell : Tally → Float) (s doc : ℕ) (x : Float) (a : ℕ → Cell) (ms : List Meaning) (cr : ℕ) → s ≤ doc → total ms ≤ cr → length (union_meaning f tell s doc x a ms cr).pairs ≤ on doc + count a 0 4096 + cr
small f tell s doc x a ms cr le tot = ⊎_elim (λ e. steady_one e (cases_lt doc TERM)) (λ e. let l = lost_length f tell s doc x a ms cr e in omega arith) (cases_Bool (settled (bound s doc) ms))
  where
    steady_one : settled (bound s doc) ms ≡ true → (doc < TERM) ⊎ (TERM ≤ doc) → length (union_meaning f tell s doc x a ms cr).pairs ≤ on doc + count a 0 4096 + cr
    steady_one e (inl lt) =
        let l = ap (λ m. length m.pairs) (is_calm f tell s doc x a ms cr e) in
        let k = ap length (stands tell (ahead f s a ms) doc x lt) in
        let j = length_listed tell (ahead f s a ms) (suc doc) (TERM - suc doc) in
        let h = ahead_small f s a ms (suc doc) (TERM - suc doc) (omega arith) in
        let o = on_one doc lt in
        omega arith
    steady_one e (inr ge) =
        let l = ap (λ m. length m.pairs) (is_calm f tell s doc x a ms cr e) in
        let k = ap length (ended tell (ahead f s a ms) doc x ge) in
        omega arith

-- a document taken from the window
pub moved_next : (f : Tally → Float → Tally) (tell : Tally → Float) (s doc e : ℕ) (x : Float) (t : Tally) (a b : ℕ → Cell) (ms : List Meaning) (cr : ℕ) → doc < TERM → s ≤ doc
    → ((k : ℕ) → s + k ≤ doc → a k ≡ none) → ((k : ℕ) → TERM ≤ s + k → a k ≡ none) → Next a b e t
    → Moved (union_meaning f tell s doc x a ms cr) (union_meaning f tell s (s + e) (tell t) b ms cr) (s + e)
moved_next f tell s doc e x t a b ms cr lt le before top n = record {
  an_id = let i = inside in omega arith;
  shrinks = (⊎_elim shorter (λ q. shorter_lost q) (cases_Bool (settled (bound s doc) ms))).0;
  drops = inl (⊎_elim shorter (λ q. shorter_lost q) (cases_Bool (settled (bound s doc) ms))).1;
  becomes = λ st. becomes (is_settled f tell s doc x a ms cr st);
  tells = λ st. first_is f tell s (s + e) (tell t) b ms cr (let i = inside in omega arith) (steady_next st) ∙ ap (λ m. first_id m.pairs) (becomes (is_settled f tell s doc x a ms cr st));
}
  where
    clash : a e ≡ none → ⊥
    clash q = let w = n.was in let z : ◌≡◌ {A = ℕ} 0 1 = cc in omega arith

    inside : s + e < TERM
    inside = ⊎_elim (λ h. h) (λ h. absurd (clash (top e h))) (cases_lt (s + e) TERM)

    as_before : settled (bound s (s + e)) ms ≡ settled (bound s doc) ms
    as_before = ap (λ h. settled h ms) (bound_on s (s + e) inside ∙ sym (bound_on s doc lt))

    past : doc < s + e
    past = ⊎_elim (λ h. h) (λ h. absurd (clash (before e h))) (cases_lt doc (s + e))

    short : s + e < reach s
    short = let i = n.inside in let j = inside in omega arith

    list : standing tell (ahead f s b ms) (s + e) (tell t) ≡ rest (standing tell (ahead f s a ms) doc x)
    list = stands tell (ahead f s b ms) (s + e) (tell t) inside
        ∙ sym (pop_list f tell s a b ms e t (suc doc) n (omega arith) past short)
        ∙ ap rest (sym (stands tell (ahead f s a ms) doc x lt))

    becomes : settled (bound s doc) ms ≡ true → union_meaning f tell s (s + e) (tell t) b ms cr ≡ calm (rest (union_meaning f tell s doc x a ms cr).pairs)
    becomes q = is_calm f tell s (s + e) (tell t) b ms cr (as_before ∙ q) ∙ ap calm list ∙ ap (λ m. calm (rest m.pairs)) (sym (is_calm f tell s doc x a ms cr q))

    steady_next : Steady (union_meaning f tell s doc x a ms cr) → Steady (union_meaning f tell s (s + e) (tell t) b ms cr)
    steady_next st = ap (λ m. m.mark) (becomes (is_settled f tell s doc x a ms cr st))

    M : ℕ
    M = length (union_meaning f tell s doc x a ms cr).pairs

    N : ℕ
    N = length (union_meaning f tell s (s + e) (tell t) b ms cr).pairs

    shorter : settled (bound s doc) ms ≡ true → (length (union_meaning f tell s (s + e) (tell t) b ms cr).pairs ≤ length (union_meaning f tell s doc x a ms cr).pairs) × (length (union_meaning f tell s (s + e) (tell t) b ms cr).pairs < length (union_meaning f tell s doc x a ms cr).pairs)
    shorter q =
        let l1 = ap (λ m. length m.pairs) (is_calm f tell s doc x a ms cr q) in
        let l2 = ap (λ m. length m.pairs) (is_calm f tell s (s + e) (tell t) b ms cr (as_before ∙ q)) in
        let l3 = ap length list in
        let l4 = ap length (stands tell (ahead f s a ms) doc x lt) in
        let l5 = ap (λ ps. length (rest ps)) (stands tell (ahead f s a ms) doc x lt) in
        (omega arith, omega arith)

    shorter_lost : settled (bound s doc) ms ≡ false → (length (union_meaning f tell s (s + e) (tell t) b ms cr).pairs ≤ length (union_meaning f tell s doc x a ms cr).pairs) × (length (union_meaning f tell s (s + e) (tell t) b ms cr).pairs < length (union_meaning f tell s doc x a ms cr).pairs)
    shorter_lost q =
        let l1 = lost_length f tell s doc x a ms cr q in
        let l2 = lost_length f tell s (s + e) (tell t) b ms cr (as_before ∙ q) in
        let i = n.inside in
        let c = count_less a b e t 0 4096 n.was n.here n.others (omega arith) (omega arith) in
        let o = on_one doc lt in
        let o2 = on_one (s + e) inside in
        (omega arith, omega arith)

-- nothing more to come
pub moved_stay : (f : Tally → Float → Tally) (tell : Tally → Float) (s doc : ℕ) (x : Float) (a : ℕ → Cell) (ms : List Meaning) (cr : ℕ) → doc ≡ TERM → Moved (union_meaning f tell s doc x a ms cr) (union_meaning f tell s doc x a ms cr) TERM
moved_stay f tell s doc x a ms cr q = record {
  an_id = omega arith;
  shrinks = omega arith;
  drops = inr refl;
  becomes = λ st. same (is_settled f tell s doc x a ms cr st);
  tells = λ st. ap (λ ps. first_id (rest ps)) (sym (nothing (is_settled f tell s doc x a ms cr st)));
}
  where
    nothing : settled (bound s doc) ms ≡ true → (union_meaning f tell s doc x a ms cr).pairs ≡ []
    nothing e = ap (λ m. m.pairs) (is_calm f tell s doc x a ms cr e) ∙ ended tell (ahead f s a ms) doc x (omega arith)

    same : settled (bound s doc) ms ≡ true → union_meaning f tell s doc x a ms cr ≡ calm (rest (union_meaning f tell s doc x a ms cr).pairs)
    same e = is_calm f tell s doc x a ms cr e ∙ ap calm (ended tell (ahead f s a ms) doc x (omega arith)) ∙ ap (λ ps. calm (rest ps)) (sym (nothing e))

-- a window opened once the last one is spent
pub moved_open : (f : Tally → Float → Tally) (tell : Tally → Float) (s doc r : ℕ) (x : Float) (a : ℕ → Cell) (ms : List Meaning) (cr : ℕ) (n : Meaning) → doc < TERM → doc < s + 4096
    → ((k : ℕ) → a k ≡ none) → Opened f tell ms cr n r
    → Moved (union_meaning f tell s doc x a ms cr) n r
moved_open f tell s doc r x a ms cr n lt span z o = record {
  an_id = o.an_id;
  shrinks = (⊎_elim shorter (λ q. shorter_lost q) (cases_Bool (settled (bound s doc) ms))).0;
  drops = inl (⊎_elim shorter (λ q. shorter_lost q) (cases_Bool (settled (bound s doc) ms))).1;
  becomes = λ st. becomes (is_settled f tell s doc x a ms cr st);
  tells = λ st. let e = becomes (is_settled f tell s doc x a ms cr st) in o.tells (ap (λ m. m.mark) e) ∙ ap (λ m. first_id m.pairs) e;
}
  where
    list : settled (bound s doc) ms ≡ true → union_list f tell ms ≡ rest (standing tell (ahead f s a ms) doc x)
    list q = let w = settled_is (bound s doc) ms q in let h = bound_on s doc lt in let k = w.1 in
        sym (spent_list f tell s doc a ms (o.rises w.0) (omega arith) (omega (arith, h)) z) ∙ ap rest (sym (stands tell (ahead f s a ms) doc x lt))

    becomes : settled (bound s doc) ms ≡ true → n ≡ calm (rest (union_meaning f tell s doc x a ms cr).pairs)
    becomes q = o.becomes (settled_is (bound s doc) ms q).0 ∙ ap calm (list q) ∙ ap (λ m. calm (rest m.pairs)) (sym (is_calm f tell s doc x a ms cr q))

    shorter : settled (bound s doc) ms ≡ true → (length n.pairs ≤ length (union_meaning f tell s doc x a ms cr).pairs) × (length n.pairs < length (union_meaning f tell s doc x a ms cr).pairs)
    shorter q =
        let l1 = ap (λ m. length m.pairs) (is_calm f tell s doc x a ms cr q) in
        let l2 = ap (λ m. length m.pairs) (o.becomes (settled_is (bound s doc) ms q).0) in
        let l3 = ap length (list q) in
        let l4 = ap length (stands tell (ahead f s a ms) doc x lt) in
        let l5 = ap (λ ps. length (rest ps)) (stands tell (ahead f s a ms) doc x lt) in
        (omega arith, omega arith)

    shorter_lost : settled (bound s doc) ms ≡ false → (length n.pairs ≤ length (union_meaning f tell s doc x a ms cr).pairs) × (length n.pairs < length (union_meaning f tell s doc x a ms cr).pairs)
    shorter_lost q =
        let l1 = lost_length f tell s doc x a ms cr q in
        let l2 = o.small in
        let o1 = on_one doc lt in
        (omega arith, omega arith)

-- the three ways in which a window opens
pub opened_some : (f : Tally → Float → Tally) (tell : Tally → Float) (P Q : List Meaning) (a b c : ℕ → Cell) (low e : ℕ) (t : Tally) (cr cr1 : ℕ)
    → (AllSteady P → AllRising P) → (AllSteady P → low ≡ lowest_of P) → low < TERM → ((k : ℕ) → a k ≡ none) → Refilled f low (reach low) P Q a b → Next b c e t
    → count b 0 4096 + cr1 ≤ count a 0 4096 + cr → total Q ≤ cr1
    → Opened f tell P cr (union_meaning f tell low (low + e) (tell t) c Q cr1) (low + e)
opened_some f tell P Q a b c low e t cr cr1 rises lowest lt z v n pays tot = record {
  an_id = let i = short in omega arith;
  rises = rises;
  becomes = becomes;
  tells = first_is f tell low (low + e) (tell t) c Q cr1 (let i = short in omega arith);
  small =
      let h = small f tell low (low + e) (tell t) c Q cr1 (omega arith) tot in
      let i = short in
      let o = on_one (low + e) (omega arith) in
      let j = n.inside in
      let k = count_less b c e t 0 4096 n.was n.here n.others (omega arith) (omega arith) in
      let y = count_none a 0 4096 (λ k g l. z k) in
      omega arith;
}
  where
    clash : b e ≡ none → ⊥
    clash q = let w = n.was in let y : ◌≡◌ {A = ℕ} 0 1 = cc in omega arith

    short : low + e < reach low
    short = ⊎_elim (λ h. h) (λ h. absurd (clash (v.outside e h ∙ z e))) (cases_lt (low + e) (reach low))

    becomes : AllSteady P → union_meaning f tell low (low + e) (tell t) c Q cr1 ≡ calm (union_list f tell P)
    becomes s =
        let d : AllSound P = (s, rises s) in
        is_calm f tell low (low + e) (tell t) c Q cr1 (ap (λ h. settled h Q) (bound_on low (low + e) (let i = short in omega arith)) ∙ ap (settled (reach low)) (v.becomes d) ∙ settled_passed (reach low) P (omega arith))
        ∙ ap calm
        (stands tell (ahead f low c Q) (low + e) (tell t) (let i = short in omega arith)
        ∙ sym (pop_list f tell low b c Q e t low n (omega arith) (omega arith) short)
        ∙ sym (filled_list f tell P Q a b low d (lowest s) z v))

pub opened_none : (f : Tally → Float → Tally) (tell : Tally → Float) (P Q : List Meaning) (a b c : ℕ → Cell) (low : ℕ) (x : Float) (cr cr1 : ℕ)
    → (AllSteady P → AllRising P) → (AllSteady P → low ≡ lowest_of P) → low < TERM → ((k : ℕ) → a k ≡ none) → Refilled f low (reach low) P Q a b → Ended b c
    → count b 0 4096 + cr1 ≤ count a 0 4096 + cr → total Q ≤ cr1
    → Opened f tell P cr (union_meaning f tell low TERM x c Q cr1) TERM
opened_none f tell P Q a b c low x cr cr1 rises lowest lt z v n pays tot = record {
  an_id = omega arith;
  rises = rises;
  becomes = λ s. absurd (let w = filled_some f P Q a b low (s, rises s) (lowest s) lt z v in let p = w.1 in let q = n.all 0 in let y : ◌≡◌ {A = ℕ} 0 1 = cc in omega arith);
  tells = first_is f tell low TERM x c Q cr1 (omega arith);
  small =
      let h = small f tell low TERM x c Q cr1 (omega arith) tot in
      let k = count_none c 0 4096 (λ e g l. n.same e ∙ n.all e) in
      let l = count_none b 0 4096 (λ k g l. n.all k) in
      let y = count_none a 0 4096 (λ k g l. z k) in
      omega arith;
}

-- The same of a union that keeps its window, from wherever that starts.
pub opened_end : (f : Tally → Float → Tally) (tell : Tally → Float) (P : List Meaning) (a : ℕ → Cell) (s low : ℕ) (x : Float) (cr : ℕ) → s ≤ TERM
    → (AllSteady P → AllRising P) → (AllSteady P → low ≡ lowest_of P) → low ≡ TERM → ((k : ℕ) → a k ≡ none) → total P ≤ cr
    → Opened f tell P cr (union_meaning f tell s TERM x a P cr) TERM
opened_end f tell P a s low x cr le rises lowest q z tot = record {
  an_id = omega arith;
  rises = rises;
  becomes = λ st.
      let h = lowest st in
      is_calm f tell s TERM x a P cr (settled_by (bound s TERM) P st (omega (arith, bound_end s TERM (omega arith))))
      ∙ ap calm (ended tell (ahead f s a P) TERM x (omega arith) ∙ sym (union_low f tell P TERM (rises st) (omega arith) ∙ listed_none tell (united f P) TERM (TERM - TERM) (λ d g l. absurd (omega arith))));
  tells = first_is f tell s TERM x a P cr (omega arith);
  small =
      let h = small f tell s TERM x a P cr le tot in
      let y = count_none a 0 4096 (λ k g l. z k) in
      omega arith;
}

pub scored_end : (f : Tally → Float → Tally) (tell : Tally → Float) (s doc : ℕ) (x : Float) (a : ℕ → Cell) (ms : List Meaning) (cr : ℕ) → doc ≡ TERM → Scored (union_meaning f tell s doc x a ms cr) (union_meaning f tell s doc x a ms cr) zero_score
scored_end f tell s doc x a ms cr q = record {
  shrinks = omega arith;
  same = λ st. refl;
  tells = λ st. sym (ap (λ m. first_score m.pairs) (is_calm f tell s doc x a ms cr (is_settled f tell s doc x a ms cr st)) ∙ ap first_score (ended tell (ahead f s a ms) doc x (omega arith)));
}

pub scored_on : (f : Tally → Float → Tally) (tell : Tally → Float) (s doc : ℕ) (x : Float) (a : ℕ → Cell) (ms : List Meaning) (cr : ℕ) → doc ≤ TERM → (doc ≡ TERM → ⊥) → Scored (union_meaning f tell s doc x a ms cr) (union_meaning f tell s doc x a ms cr) x
scored_on f tell s doc x a ms cr le q = record {
  shrinks = omega arith;
  same = λ st. refl;
  tells = λ st. sym (ap (λ m. first_score m.pairs) (is_calm f tell s doc x a ms cr (is_settled f tell s doc x a ms cr st)) ∙ ap first_score (stands tell (ahead f s a ms) doc x (omega (arith, q))));
}

-- a union of which nothing is asked
pub idle_calm : (f : Tally → Float → Tally) (tell : Tally → Float) (s : ℕ) (x : Float) (a : ℕ → Cell) (ms : List Meaning) (cr : ℕ) → AllSteady ms → TERM ≤ lowest_of ms → union_meaning f tell s TERM x a ms cr ≡ calm []
idle_calm f tell s x a ms cr z le =
    is_calm f tell s TERM x a ms cr (settled_by (bound s TERM) ms z (omega (arith, bound_end s TERM (omega arith)))) ∙ ap calm (ended tell (ahead f s a ms) TERM x (omega arith))

-- a union is never astray
pub known_steady : (f : Tally → Float → Tally) (tell : Tally → Float) (s doc : ℕ) (x : Float) (a : ℕ → Cell) (ms : List Meaning) (cr : ℕ) → Known (union_meaning f tell s doc x a ms cr).mark → Steady (union_meaning f tell s doc x a ms cr)
known_steady f tell s doc x a ms cr k =
    ⊎_elim (λ e. ap (λ m. m.mark) (is_calm f tell s doc x a ms cr e))
    (λ e. absurd (subst (λ (m : Meaning). Known m.mark) (is_lost f tell s doc x a ms cr e) k))
    (cases_Bool (settled (bound s doc) ms))
