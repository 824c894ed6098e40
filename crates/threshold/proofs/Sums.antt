-- Sums over the entries of a heap, and over the sets that they belong to.
use Rattle.std.proofs.Common.{◌≡◌, ℕ, zero, suc, ◌+◌, ◌<◌, Bool, true, false, cond, ◌&&◌, ◌||◌, eqb, List, [], ◌∷◌, length, drop, set, sum_by, sym, refl, ap, ◌∙◌, ⊎_elim, arith}
use Rattle.std.proofs.Math.Nat.{add-zero, add-suc, suc-add}
use Rattle.std.proofs.lemmas.List.Sums.{sum_by-cons}
use Rattle.std.proofs.lemmas.Bool.{eqb-true, eq-eqb, and_parts, and_from, or_parts, cases_Bool, both_ways}
use Rattle.docset.specs.Meaning.{Meaning}
use Rattle.bank.specs.Places.{at}
use Rattle.heap.specs.declared.order.Entry.{Entry}
use Rattle.live.specs.Kept.{none_left}
use Rattle.threshold.specs.Entries.{entry_of, same_entry, among, one_less, matches, weight, weights}

-- ---- sums over the sets

-- one set changed
pub weights_set :
    (f : Entry → ℕ) (k i : ℕ) (ms : List Meaning) (m : Meaning) → i < length ms →
    weights f k (set ms i m) + weight f (k + i) (at ms i) ≡ weights f k ms + weight f (k + i) m
weights_set f k i [] m l = absurd (omega arith)
weights_set f k zero (x ∷ ms) m l = rw add-zero (omega arith)
weights_set f k (suc i) (x ∷ ms) m l = rw add-suc (omega (arith, rw suc-add at (weights_set f (suc k) i ms m (omega arith))))

-- nothing in all, nothing of each
pub zero_each : (f : Entry → ℕ) (k : ℕ) (ms : List Meaning) → weights f k ms ≡ 0 → (i : ℕ) → i < length ms → weight f (k + i) (at ms i) ≡ 0
zero_each f k [] h i l = absurd (omega arith)
zero_each f k (m ∷ ms) h zero l = rw add-zero (omega arith)
zero_each f k (m ∷ ms) h (suc i) l = rw add-suc (rw suc-add at (zero_each f (suc k) ms (omega arith) i (omega arith)))

pub each_zero : (f : Entry → ℕ) (k : ℕ) (ms : List Meaning) → ((i : ℕ) → i < length ms → weight f (k + i) (at ms i) ≡ 0) → weights f k ms ≡ 0
each_zero f k [] h = refl
each_zero f k (m ∷ ms) h =
    let a = rw add-zero at (h 0 (omega arith)) in
    let b = each_zero f (suc k) ms (λ i l. rw suc-add (rw add-suc at (h (suc i) (omega arith)))) in
    omega arith

-- the set at place i, and those behind it
pub weights_drop : (f : Entry → ℕ) (k i : ℕ) (ms : List Meaning) → weights f (k + i) (drop i ms) ≡ weight f (k + i) (at ms i) + weights f (suc (k + i)) (drop (suc i) ms)
weights_drop f k zero [] = refl
weights_drop f k (suc i) [] = refl
weights_drop f k zero (m ∷ ms) = refl
weights_drop f k (suc i) (m ∷ ms) = rw add-suc (rw suc-add at (weights_drop f (suc k) i ms))

-- ---- the test

same_is : (a b : Entry) → same_entry a b ≡ true → a ≡ b
same_is a b h =
    let p = and_parts (eqb a.id b.id) (eqb a.place b.place) h in
    ap {B = Entry} (λ x. record { id = x; place = a.place }) (eqb-true a.id b.id p.0) ∙
    ap {B = Entry} (λ y. record { id = b.id; place = y }) (eqb-true a.place b.place p.1)

same_self : (a : Entry) → same_entry a a ≡ true
same_self a = and_from _ _ (eq-eqb a.id a.id refl) (eq-eqb a.place a.place refl)

one_less_sum : (f : Entry → ℕ) (e : Entry) (es : List Entry) → among e es ≡ true → sum_by f es ≡ f e + sum_by f (one_less e es)
one_less_sum f e [] h = absurd (both_ways false refl h)
one_less_sum f e (x ∷ xs) h = go (same_entry e x) refl (one_less_sum f e xs) h
  where
    go : (b : Bool) → same_entry e x ≡ b → (among e xs ≡ true → sum_by f xs ≡ f e + sum_by f (one_less e xs)) → (b || among e xs) ≡ true → sum_by f (x ∷ xs) ≡ f e + sum_by f (cond b xs (x ∷ one_less e xs))
    go true s ih a = sum_by-cons f x xs ∙ ap (λ y. f y + sum_by f xs) (sym (same_is e x s))
    go false s ih a = let p = sum_by-cons f x xs in let q = sum_by-cons f x (one_less e xs) in let r = ih a in omega arith

hit : Entry → Entry → ℕ
hit e x = cond (same_entry e x) 1 0

hit_self : (e : Entry) → hit e e ≡ 1
unfolding hit
hit_self e = let s = same_self e in rw s

hit_none : (e x : Entry) → same_entry e x ≡ false → hit e x ≡ 0
unfolding hit
hit_none e x s = rw s

missed_sum : (e : Entry) (es : List Entry) → among e es ≡ false → sum_by (hit e) es ≡ 0
missed_sum e [] h = refl
missed_sum e (x ∷ xs) h =
    let p = or_parts (same_entry e x) (among e xs) h in omega (arith, sum_by-cons (hit e) x xs, hit_none e x p.0, missed_sum e xs p.1)

-- entries that match the sets have every sum of them
pub matched : (k : ℕ) (ms : List Meaning) (es : List Entry) → matches k ms es ≡ true → (f : Entry → ℕ) → sum_by f es ≡ weights f k ms
matched k [] [] h f = refl
matched k [] (e ∷ es) h f = absurd (both_ways false refl h)
matched k (m ∷ ms) es h f = go (none_left m.pairs) (λ xs. matched (suc k) ms xs) h
  where
    go : (b : Bool) → ((xs : List Entry) → matches (suc k) ms xs ≡ true → (g : Entry → ℕ) → sum_by g xs ≡ weights g (suc k) ms) → cond b (matches (suc k) ms es) (among (entry_of k m) es && matches (suc k) ms (one_less (entry_of k m) es)) ≡ true → sum_by f es ≡ cond b 0 (f (entry_of k m)) + weights f (suc k) ms
    go true ih a = let r = ih es a f in omega arith
    go false ih a =
        let p = and_parts (among (entry_of k m) es) (matches (suc k) ms (one_less (entry_of k m) es)) a in
        let q = one_less_sum f (entry_of k m) es p.0 in
        let r = ih (one_less (entry_of k m) es) p.1 f in
        omega arith

-- and the other way
pub matching : (k : ℕ) (ms : List Meaning) (es : List Entry) → ((f : Entry → ℕ) → sum_by f es ≡ weights f k ms) → matches k ms es ≡ true
matching k [] [] h = refl
matching k [] (e ∷ es) h = absurd (let a = h (λ x. 1) in let b = sum_by-cons (λ x. 1) e es in omega arith)
matching k (m ∷ ms) es h = go (none_left m.pairs) (λ xs. matching (suc k) ms xs) h
  where
    go : (b : Bool) → ((xs : List Entry) → ((f : Entry → ℕ) → sum_by f xs ≡ weights f (suc k) ms) → matches (suc k) ms xs ≡ true) → ((f : Entry → ℕ) → sum_by f es ≡ cond b 0 (f (entry_of k m)) + weights f (suc k) ms)
        → cond b (matches (suc k) ms es) (among (entry_of k m) es && matches (suc k) ms (one_less (entry_of k m) es)) ≡ true
    go true ih a = ih es (λ f. let r = a f in omega arith)
    go false ih a =
        let e : Entry = entry_of k m in
        let there : among (entry_of k m) es ≡ true =
        ⊎_elim (λ p. p) (λ p. absurd (let q = missed_sum e es p in let r = a (hit e) in let s = hit_self e in omega arith)) (cases_Bool (among (entry_of k m) es)) in
        and_from _ _ there (ih (one_less (entry_of k m) es) (λ f. let q = one_less_sum f (entry_of k m) es there in let r = a f in omega arith))
