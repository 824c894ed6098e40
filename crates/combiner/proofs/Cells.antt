-- Lemmas on many cells: the numbers whose cell holds something, how many they are, and their list with scores.
use Rattle.std.proofs.Common.{◌≡◌, ℕ, zero, suc, ◌+◌, ◌-◌, ◌<◌, ◌≤◌, List, [], ◌∷◌, ◌++◌, length, sym, refl, ap, ◌∙◌, ⊎_elim, arith, length-append}
use lib.Ieee.{Float}
use Rattle.std.proofs.lemmas.Bool.{cases_eq}
use Rattle.docset.specs.Meaning.{Pair, TERM, ids, from, Rising, first_id}
use Rattle.docset.proofs.Lists.{lower, from_lt, from_all}
use Rattle.combiner.specs.declared.score_combiner.Tally.{Tally}
use Rattle.combiner.specs.Cells.{Cell, none, some, slot_of, slots, count, entry, listed}

-- ---- the numbers whose cell holds something

-- equal cells, equal numbers
pub slots_same : (a b : ℕ → Cell) (lo n : ℕ) → ((d : ℕ) → lo ≤ d → d < lo + n → a d ≡ b d) → slots a lo n ≡ slots b lo n
unfolding slots
slots_same a b lo zero h = refl
slots_same a b lo (suc n) h =
    let e = h lo (omega arith) (omega arith) in
    let r = slots_same a b (suc lo) n (λ d ge lt. h d (omega arith) (omega arith)) in
    rw (e, r)

-- no cell holds anything
pub slots_none : (a : ℕ → Cell) (lo n : ℕ) → ((d : ℕ) → lo ≤ d → d < lo + n → a d ≡ none) → slots a lo n ≡ []
unfolding slots
slots_none a lo zero h = refl
slots_none a lo (suc n) h =
    let e = h lo (omega arith) (omega arith) in
    let r = slots_none a (suc lo) n (λ d ge lt. h d (omega arith) (omega arith)) in
    rw e r

slot_of_append : (d : ℕ) (c : Cell) (xs ys : List ℕ) → slot_of d c (xs ++ ys) ≡ slot_of d c xs ++ ys
slot_of_append d none xs ys = refl
slot_of_append d (some t) xs ys = refl

-- the numbers of two ranges, one after the other
pub slots_split : (a : ℕ → Cell) (lo m n : ℕ) → slots a lo (m + n) ≡ slots a lo m ++ slots a (lo + m) n
unfolding slots
slots_split a lo zero n = let p : 0 + n ≡ n = omega arith in let q : lo + 0 ≡ lo = omega arith in rw (p, q)
slots_split a lo (suc m) n =
    let p : suc m + n ≡ suc (m + n) = omega arith in
    let q : lo + suc m ≡ suc lo + m = omega arith in
    rw (p, q) (ap (slot_of lo (a lo)) (slots_split a (suc lo) m n) ∙ slot_of_append lo (a lo) _ _)

-- empty cells in front go
pub slots_skip : (a : ℕ → Cell) (lo m n : ℕ) → ((d : ℕ) → lo ≤ d → d < lo + m → a d ≡ none) → slots a lo (m + n) ≡ slots a (lo + m) n
slots_skip a lo m n h = slots_split a lo m n ∙ ap (λ (xs : List ℕ). xs ++ slots a (lo + m) n) (slots_none a lo m h)

-- a first cell that holds something
pub slots_one : (a : ℕ → Cell) (k n : ℕ) (t : Tally) → a k ≡ some t → slots a k (suc n) ≡ k ∷ slots a (suc k) n
unfolding slots
slots_one a k n t e = rw e

-- ---- how many they are

pub count_same : (a b : ℕ → Cell) (lo n : ℕ) → ((d : ℕ) → lo ≤ d → d < lo + n → b d ≡ a d) → count b lo n ≡ count a lo n
count_same a b lo n h = ap length (slots_same b a lo n h)

pub count_none : (a : ℕ → Cell) (lo n : ℕ) → ((d : ℕ) → lo ≤ d → d < lo + n → a d ≡ none) → count a lo n ≡ 0
count_none a lo n h = ap length (slots_none a lo n h)

pub count_split : (a : ℕ → Cell) (lo m n : ℕ) → count a lo (m + n) ≡ count a lo m + count a (lo + m) n
count_split a lo m n = ap length (slots_split a lo m n) ∙ length-append (slots a lo m) (slots a (lo + m) n)

-- 1 for a cell that holds something, else 0
abbrev pub filled : Cell → ℕ
filled none = 0
filled (some t) = 1

filled_le : (c : Cell) → filled c ≤ 1
filled_le none = omega arith
filled_le (some t) = omega arith

length_slot : (d : ℕ) (c : Cell) (xs : List ℕ) → length (slot_of d c xs) ≡ filled c + length xs
length_slot d none xs = omega arith
length_slot d (some t) xs = omega arith

-- the first cell, and those after it
pub count_step : (a : ℕ → Cell) (lo n : ℕ) → count a lo (suc n) ≡ filled (a lo) + count a (suc lo) n
unfolding slots
count_step a lo n = length_slot lo (a lo) (slots a (suc lo) n)

-- no more than there are cells
pub count_le : (a : ℕ → Cell) (lo n : ℕ) → count a lo n ≤ n
unfolding slots
count_le a lo zero = omega arith
count_le a lo (suc n) = omega (arith, count_step a lo n, count_le a (suc lo) n, filled_le (a lo))

-- one cell changed: one more at most
pub count_more : (a b : ℕ → Cell) (d lo n : ℕ) → ((e : ℕ) → (e ≡ d → ⊥) → b e ≡ a e) → count b lo n ≤ suc (count a lo n)
unfolding slots
count_more a b d lo zero h = omega arith
count_more a b d lo (suc n) h =
    let ih = count_more a b d (suc lo) n h in
    let x = filled_le (b lo) in
    let p = count_step a lo n in
    let q = count_step b lo n in
    ⊎_elim
    (λ z. let r = count_same a b (suc lo) n (λ e ge lt. h e (λ y. omega arith)) in omega arith)
    (λ z. let e = ap filled (h lo z) in omega arith)
    (cases_eq lo d)

-- one cell emptied: one less
pub count_less : (a b : ℕ → Cell) (d : ℕ) (t : Tally) (lo n : ℕ) → a d ≡ some t → b d ≡ none
    → ((e : ℕ) → (e ≡ d → ⊥) → b e ≡ a e) → lo ≤ d → d < lo + n → suc (count b lo n) ≡ count a lo n
count_less a b d t lo zero x y h ge lt = absurd (omega arith)
count_less a b d t lo (suc n) x y h ge lt =
    let p = count_step a lo n in
    let q = count_step b lo n in
    ⊎_elim
    (λ z.
    let r = count_same a b (suc lo) n (λ e g l. h e (λ w. omega arith)) in
    let u = ap filled (ap a z ∙ x) in
    let v = ap filled (ap b z ∙ y) in
    omega arith)
    (λ z.
    let e = ap filled (h lo z) in
    let ih = count_less a b d t (suc lo) n x y h (omega (arith, z)) (omega arith) in
    omega arith)
    (cases_eq lo d)

-- ---- the list with scores

-- equal cells, equal lists
pub listed_same : (tell : Tally → Float) (a b : ℕ → Cell) (lo n : ℕ) → ((d : ℕ) → lo ≤ d → d < lo + n → a d ≡ b d) → listed tell a lo n ≡ listed tell b lo n
unfolding listed
listed_same tell a b lo zero h = refl
listed_same tell a b lo (suc n) h =
    let e = h lo (omega arith) (omega arith) in
    let r = listed_same tell a b (suc lo) n (λ d ge lt. h d (omega arith) (omega arith)) in
    rw (e, r)

-- no cell holds anything
pub listed_none : (tell : Tally → Float) (a : ℕ → Cell) (lo n : ℕ) → ((d : ℕ) → lo ≤ d → d < lo + n → a d ≡ none) → listed tell a lo n ≡ []
unfolding listed
listed_none tell a lo zero h = refl
listed_none tell a lo (suc n) h =
    let e = h lo (omega arith) (omega arith) in
    let r = listed_none tell a (suc lo) n (λ d ge lt. h d (omega arith) (omega arith)) in
    rw e r

entry_append : (tell : Tally → Float) (d : ℕ) (c : Cell) (ps qs : List Pair) → entry tell d c (ps ++ qs) ≡ entry tell d c ps ++ qs
entry_append tell d none ps qs = refl
entry_append tell d (some t) ps qs = refl

-- the lists of two ranges, one after the other
pub listed_split : (tell : Tally → Float) (a : ℕ → Cell) (lo m n : ℕ) → listed tell a lo (m + n) ≡ listed tell a lo m ++ listed tell a (lo + m) n
unfolding listed
listed_split tell a lo zero n = let p : 0 + n ≡ n = omega arith in let q : lo + 0 ≡ lo = omega arith in rw (p, q)
listed_split tell a lo (suc m) n =
    let p : suc m + n ≡ suc (m + n) = omega arith in
    let q : lo + suc m ≡ suc lo + m = omega arith in
    rw (p, q) (ap (entry tell lo (a lo)) (listed_split tell a (suc lo) m n) ∙ entry_append tell lo (a lo) _ _)

-- empty cells in front go
pub listed_skip : (tell : Tally → Float) (a : ℕ → Cell) (lo m n : ℕ) → ((d : ℕ) → lo ≤ d → d < lo + m → a d ≡ none) → listed tell a lo (m + n) ≡ listed tell a (lo + m) n
listed_skip tell a lo m n h =
    listed_split tell a lo m n ∙ ap (λ (ps : List Pair). ps ++ listed tell a (lo + m) n) (listed_none tell a lo m h)

-- a first cell that holds something
pub listed_one : (tell : Tally → Float) (a : ℕ → Cell) (k n : ℕ) (t : Tally) → a k ≡ some t → listed tell a k (suc n) ≡ record { id = k; score = tell t } ∷ listed tell a (suc k) n
unfolding listed
listed_one tell a k n t e = rw e

-- the first cell that holds something heads the list
pub listed_head : (tell : Tally → Float) (a : ℕ → Cell) (lo k hi : ℕ) (t : Tally) → lo ≤ k → k < hi
    → ((d : ℕ) → lo ≤ d → d < k → a d ≡ none) → a k ≡ some t
    → listed tell a lo (hi - lo) ≡ record { id = k; score = tell t } ∷ listed tell a (suc k) (hi - suc k)
listed_head tell a lo k hi t le lt h e =
    let p : hi - lo ≡ (k - lo) + suc (hi - suc k) = omega arith in
    let q : lo + (k - lo) ≡ k = omega arith in
    ap (listed tell a lo) p ∙ listed_skip tell a lo (k - lo) (suc (hi - suc k)) (λ d ge l. h d ge (omega arith)) ∙
    ap (λ (x : ℕ). listed tell a x (suc (hi - suc k))) q ∙ listed_one tell a k (hi - suc k) t e

entry_rises : (tell : Tally → Float) (d : ℕ) (c : Cell) (ps : List Pair) → d < TERM → Rising (suc d) ps → Rising d (entry tell d c ps)
entry_rises tell d none ps lt r = lower d (suc d) (ids ps) (omega arith) r
entry_rises tell d (some t) ps lt r = (omega arith, lt, r)

-- ids rise
pub listed_rises : (tell : Tally → Float) (a : ℕ → Cell) (lo n : ℕ) → lo + n ≤ TERM → Rising lo (listed tell a lo n)
unfolding listed
listed_rises tell a lo zero le = tt
listed_rises tell a lo (suc n) le = entry_rises tell lo (a lo) _ (omega arith) (listed_rises tell a (suc lo) n (omega arith))

first_high : (lo : ℕ) (ps : List Pair) → lo ≤ TERM → Rising lo ps → lo ≤ first_id ps
first_high lo [] le r = le
first_high lo (p ∷ ps) le r = r.0

entry_from : (tell : Tally → Float) (d t : ℕ) (c : Cell) (ps : List Pair) → d < t → from t (entry tell d c ps) ≡ from t ps
entry_from tell d t none ps lt = refl
entry_from tell d t (some x) ps lt = from_lt t (record { id = d; score = tell x }) ps lt

-- dropping what is below a target
pub listed_from : (tell : Tally → Float) (a : ℕ → Cell) (lo m n : ℕ) → lo + (m + n) ≤ TERM → from (lo + m) (listed tell a lo (m + n)) ≡ listed tell a (lo + m) n
unfolding listed
listed_from tell a lo zero n le =
    let p : 0 + n ≡ n = omega arith in
    let q : lo + 0 ≡ lo = omega arith in
    rw (p, q) (from_all lo (listed tell a lo n) (first_high lo (listed tell a lo n) (omega arith) (listed_rises tell a lo n (omega arith))))
listed_from tell a lo (suc m) n le =
    let p : suc m + n ≡ suc (m + n) = omega arith in
    let q : lo + suc m ≡ suc lo + m = omega arith in
    rw (p, q) (entry_from tell lo (suc lo + m) (a lo) _ (omega arith) ∙ listed_from tell a (suc lo) m n (omega arith))

ids_entry : (tell : Tally → Float) (d : ℕ) (c : Cell) (ps : List Pair) → ids (entry tell d c ps) ≡ slot_of d c (ids ps)
ids_entry tell d none ps = refl
ids_entry tell d (some t) ps = refl

-- the ids of the list are the numbers whose cell holds something
pub ids_listed : (tell : Tally → Float) (a : ℕ → Cell) (lo n : ℕ) → ids (listed tell a lo n) ≡ slots a lo n
unfolding listed slots
ids_listed tell a lo zero = refl
ids_listed tell a lo (suc n) = ids_entry tell lo (a lo) _ ∙ ap (slot_of lo (a lo)) (ids_listed tell a (suc lo) n)

length_entry : (tell : Tally → Float) (d : ℕ) (c : Cell) (ps : List Pair) → length (entry tell d c ps) ≡ filled c + length ps
length_entry tell d none ps = omega arith
length_entry tell d (some t) ps = omega arith

-- the list is as long as they are many
pub length_listed : (tell : Tally → Float) (a : ℕ → Cell) (lo n : ℕ) → length (listed tell a lo n) ≡ count a lo n
unfolding listed slots
length_listed tell a lo zero = refl
length_listed tell a lo (suc n) =
    length_entry tell lo (a lo) _ ∙ ap (λ (x : ℕ). filled (a lo) + x) (length_listed tell a (suc lo) n) ∙ sym (count_step a lo n)
