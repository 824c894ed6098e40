-- The top of a heap of entries: the lowest id that the sets list, and of those that list it the first.
use Rattle.std.proofs.Common.{◌≡◌, ℕ, ◌<◌, ◌≤◌, Bool, true, false, cond, not, ◌&&◌, eqb, ltb, ◌⊎◌, List, [], ◌∷◌, length, get_or, sum_by, sym, refl, ap, ◌∙◌, subst, ⊎_elim, zero-add, arith}
use Rattle.std.proofs.ByRecursion.{All-from_get_or, sum_by_le}
use Rattle.std.proofs.lemmas.List.Sums.{get_or-le-sum_by}
use Rattle.std.proofs.lemmas.Bool.{ltb-true, eqb-true, lt-ltb, eq-eqb, and_parts, and_from, not-true, not_from_false, cases_Bool, both_ways}
use Rattle.docset.specs.Meaning.{Meaning, Pair, TERM, Rising, first_id}
use Rattle.docset.proofs.Lists.{settled}
use Rattle.bank.specs.Places.{at}
use Rattle.heap.specs.declared.order.Entry.{Entry}
use Rattle.std.proofs.lemmas.Bool.Decides.{nat_tests}
use Rattle.heap.specs.Ranks.{lex}
use Rattle.live.specs.Sets.{empty, lowest_of}
use Rattle.live.specs.Kept.{none_left}
use Rattle.live.proofs.Keeps.{steady_at, lowest_le}
use Rattle.live.proofs.Passed.{rising_at, lowest_at, lowest_bound}
use Rattle.threshold.specs.Entries.{entry_of, earlier, Tops, weight, weights, Ready}
use Rattle.threshold.proofs.Sums.{zero_each, each_zero}

-- ---- sums over the entries

sum_none : (f : Entry → ℕ) (E : List Entry) (d : Entry) → ((k : ℕ) → k < length E → f (get_or E k d) ≡ 0) → sum_by f E ≡ 0
sum_none f E d h =
    let s = sum_by_le f 0 E (All-from_get_or (λ x. f x ≤ 0) E d (λ k q. let z = h k q in omega arith)) in
    omega arith

-- ---- the top

pub record Least (P : List Meaning) (e : Entry) : Type 0 where
  pub inside : e.place < length P
  pub some : none_left (at P e.place).pairs ≡ false
  pub here : e.id ≡ first_id (at P e.place).pairs
  pub bound : (k : ℕ) → k < length P → none_left (at P k).pairs ≡ false → earlier e (entry_of k (at P k)) ≡ true

good : List Meaning → Entry → Bool
good P x = ltb x.place (length P) && (not (none_left (at P x.place).pairs) && eqb x.id (first_id (at P x.place).pairs))

one_unless : Bool → ℕ
one_unless b = cond b 0 1

unless_true : (b : Bool) → b ≡ true → one_unless b ≡ 0
unfolding one_unless
unless_true b e = rw e

unless_zero : (b : Bool) → one_unless b ≤ 0 → b ≡ true
unfolding one_unless
unless_zero true h = refl
unless_zero false h = absurd (omega arith)

good_one : (P : List Meaning) (i : ℕ) → i < length P → none_left (at P i).pairs ≡ false → good P (entry_of i (at P i)) ≡ true
unfolding good
good_one P i l e = and_from _ _ (lt-ltb i (length P) l) (and_from _ _ (not_from_false _ e) (eq-eqb (first_id (at P i).pairs) (first_id (at P i).pairs) refl))

good_all : (P : List Meaning) (i : ℕ) → i < length P → weight (λ x. one_unless (good P x)) i (at P i) ≡ 0
good_all P i l = go (none_left (at P i).pairs) refl
  where
    go : (b : Bool) → none_left (at P i).pairs ≡ b → cond b 0 (one_unless (good P (entry_of i (at P i)))) ≡ 0
    go true e = refl
    go false e = unless_true _ (good_one P i l e)

at_zero : (f : Entry → ℕ) (P : List Meaning) (i : ℕ) → weights f 0 P ≡ 0 → i < length P → weight f i (at P i) ≡ 0
at_zero f P i h l = rw zero-add at (zero_each f 0 P h i l)

pub top_least : (P : List Meaning) (E : List Entry) (e : Entry) → Tops E e → Ready P E → Least P e
unfolding good
top_least P E e t r =
    let bad : Entry → ℕ = λ x. one_unless (good P x) in
    let z : weights bad 0 P ≡ 0 = each_zero bad 0 P (λ i l. rw zero-add (good_all P i l)) in
    let a = get_or-le-sum_by bad E 0 e t.some in
    let b = ap bad (t.first e) in
    let s = r.counts bad in
    parts (unless_zero (good P e) (omega arith))
  where
    bounds : (k : ℕ) → k < length P → none_left (at P k).pairs ≡ false → earlier e (entry_of k (at P k)) ≡ true
    bounds k l s =
        let late : Entry → ℕ = λ x. one_unless (earlier e x) in
        let z = sum_none late E e (λ i u. unless_true _ (t.leads i u)) in
        let w = at_zero late P k (sym (r.counts late) ∙ z) l in
        let F : Bool → Type 0 = λ b. cond b 0 (one_unless (earlier e (entry_of k (at P k)))) ≡ 0 in
        let v : one_unless (earlier e (entry_of k (at P k))) ≡ 0 = subst F s w in
        unless_zero (earlier e (entry_of k (at P k))) (omega arith)

    parts : good P e ≡ true → Least P e
    parts g =
        let a = and_parts (ltb e.place (length P)) (not (none_left (at P e.place).pairs) && eqb e.id (first_id (at P e.place).pairs)) g in
        let b = and_parts (not (none_left (at P e.place).pairs)) (eqb e.id (first_id (at P e.place).pairs)) a.1 in
        record {
          inside = ltb-true e.place (length P) a.0;
          some = not-true _ b.0;
          here = eqb-true e.id (first_id (at P e.place).pairs) b.1;
          bound = bounds;
        }

lex_below : (a i b j : ℕ) → lex a i b j ≡ true → (a < b) ⊎ ((a ≡ b) × (i ≤ j))
lex_below a i b j h = grind (arith, nat_tests)

none_first : (ps : List Pair) → none_left ps ≡ true → first_id ps ≡ TERM
none_first [] e = refl
none_first (p ∷ ps) e = absurd (both_ways false refl e)

some_first : (ps : List Pair) → Rising 0 ps → none_left ps ≡ false → first_id ps < TERM
some_first [] r e = absurd (both_ways true e refl)
some_first (p ∷ ps) r e = r.1

-- a set before the top's lists only higher ids, and no set a lower one
pub least_before : (P : List Meaning) (e : Entry) → e.id < TERM → Least P e → (k : ℕ) → k < e.place → e.id < first_id (at P k).pairs
least_before P e lt v k l = ⊎_elim
    (λ s. let t = none_first (at P k).pairs s in omega arith)
    (λ s. ⊎_elim (λ x. x) (λ x. absurd (omega arith)) (lex_below e.id e.place (first_id (at P k).pairs) k (v.bound k (let i = v.inside in omega arith) s)))
    (cases_Bool (none_left (at P k).pairs))

pub least_lowest : (P : List Meaning) (E : List Entry) (e : Entry) → Ready P E → Least P e → (e.id ≡ lowest_of P) × (e.id < TERM)
least_lowest P E e r v =
    let lt : e.id < TERM = let a = some_first (at P e.place).pairs (rising_at P e.place r.rises) v.some in let b = v.here in omega arith in
    let lo : e.id ≤ lowest_of P = lowest_bound P e.id (omega arith) (λ k l. ⊎_elim
    (λ s. let t = none_first (at P k).pairs s in omega arith)
    (λ s. ⊎_elim (λ x. omega arith) (λ x. let y = x.0 in omega arith) (lex_below e.id e.place (first_id (at P k).pairs) k (v.bound k l s)))
    (cases_Bool (none_left (at P k).pairs))) in
    let hi = lowest_at P e.place in
    let b = v.here in
    (omega arith, lt)

-- ---- no top

no_pairs : (ps : List Pair) → none_left ps ≡ true → ps ≡ []
no_pairs [] e = refl
no_pairs (p ∷ ps) e = absurd (both_ways false refl e)

pub none_top : (P : List Meaning) (E : List Entry) → Ready P E → sum_by (λ x. 1) E ≡ 0 → (k : ℕ) → k < length P → at P k ≡ empty
none_top P E r z k l =
    let w = at_zero (λ x. 1) P k (sym (r.counts (λ x. 1)) ∙ z) l in
    settled (at P k) [] (steady_at P k r.steady) (no_pairs (at P k).pairs (go (none_left (at P k).pairs) w))
  where
    go : (b : Bool) → cond {A = ℕ} b 0 1 ≡ 0 → b ≡ true
    go true e = refl
    go false e = absurd (omega arith)

pub none_lowest : (P : List Meaning) → ((k : ℕ) → k < length P → at P k ≡ empty) → lowest_of P ≡ TERM
none_lowest P h =
    let a = lowest_bound P TERM (omega arith) (λ k l. let e = ap (λ m. first_id m.pairs) (h k l) in omega arith) in
    let b = lowest_le P in
    omega arith
