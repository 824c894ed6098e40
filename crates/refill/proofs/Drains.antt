-- Ids that are taken out of a window many at a time: written to a block, or counted.
use Rattle.std.proofs.Common.{◌≡◌, ℕ, zero, suc, ◌+◌, ◌-◌, ◌<◌, ◌≤◌, min, true, false, ◌⊎◌, List, [], ◌∷◌, ◌++◌, length, get_or, take, drop, set, sym, refl, ap, ◌∙◌, subst, inl, inr, ⊎_elim, append_assoc, arith, length-append, length-drop, length-set, take-append-drop, length-take, length-take-le}
use lib.Ieee.{Float}
use lib.Seq.{take-append_seam, take-append-add, drop-append_seam, drop-append-add}
use Rattle.std.proofs.lemmas.Bool.{cases_lt, cases_Bool}
use Rattle.std.proofs.lemmas.List.{drop-drop, length-map}
use Rattle.docset.specs.Meaning.{Meaning, Pair, TERM, Steady, calm, ids, first_id, rest}
use Rattle.docset.specs.Calls.{Told, Moved}
use Rattle.docset.proofs.Lists.{length_ids, steady_known}
use Rattle.docset.proofs.Walking.{Along, Filling, along_steps, first_at, set_seam}
use Rattle.combiner.specs.declared.score_combiner.Tally.{Tally}
use Rattle.combiner.specs.Cells.{Cell, none, some, entry, slot_of, slots, count, listed}
use Rattle.combiner.proofs.Cells.{slots_same, slots_none, slots_split, slots_skip, listed_same, listed_none, listed_split, ids_listed, length_listed}
use Rattle.live.specs.Sets.{AllSteady, AllRising, passed}
use Rattle.live.specs.Lists.{united, union_list}
use Rattle.window.specs.Windows.{Wiped, shifted}
use Rattle.refill.specs.Refills.{reach}
use Rattle.refill.specs.State.{bound, settled, ahead, union_meaning, Opened, ReadsThrough, trail, reach_after}
use Rattle.refill.proofs.States.{ahead_in, ahead_out, union_low, settled_is, bound_on}
use Rattle.refill.proofs.Moves.{is_calm, is_settled, lost_length, stands, on_one}
use Rattle.refill.proofs.Seeks.{count_fewer}
use Rattle.refill.proofs.Reaches.{after_snoc, trail_snoc, next_in}

-- ---- the slots of a window as ids

slot_shift : (s k : ℕ) (c : Cell) (xs : List ℕ) → slot_of (s + k) c (shifted s xs) ≡ shifted s (slot_of k c xs)
slot_shift s k none xs = refl
slot_shift s k (some t) xs = refl

pub slots_shift :
    (c a : ℕ → Cell) (s k n : ℕ) → ((e : ℕ) → k ≤ e → e < k + n → c (s + e) ≡ a e) → slots c (s + k) n ≡ shifted s (slots a k n)
unfolding slots
slots_shift c a s k zero h = refl
slots_shift c a s k (suc n) h =
    let e = h k (omega arith) (omega arith) in
    let p : suc (s + k) ≡ s + suc k = omega arith in
    let r = slots_shift c a s (suc k) n (λ d ge lt. h d (omega arith) (omega arith)) in
    ap (λ x. slot_of (s + k) (c (s + k)) (slots c x n)) p ∙ ap (slot_of (s + k) (c (s + k))) r ∙
    ap (λ x. slot_of (s + k) x (shifted s (slots a (suc k) n))) e ∙ slot_shift s k (a k) (slots a (suc k) n)

-- how far the ids of the first w slots of a window from s on go
abbrev pub edge : ℕ → ℕ → ℕ
edge s w = min (s + w) (reach s)

-- what is ahead of the current document in the first w slots
pub window_ids :
    (f : Tally → Float → Tally) (s doc w : ℕ) (a : ℕ → Cell) (ms : List Meaning) → s ≤ doc → doc < TERM → w ≤ 4096 →
    ((k : ℕ) → s + k ≤ doc → a k ≡ none) → ((k : ℕ) → TERM ≤ s + k → a k ≡ none) →
    slots (ahead f s a ms) (suc doc) (edge s w - suc doc) ≡ shifted s (slots a 0 w)
window_ids f s doc w a ms le lt wide before top =
    ⊎_elim near far (cases_lt w (suc doc - s)) ∙ slots_shift (λ d. a (d - s)) a s 0 w (λ e g l. ap a (back e))
  where
    c : ℕ → Cell
    c d = a (d - s)

    back : (e : ℕ) → (s + e) - s ≡ e
    back e = omega arith

    -- all slots lie before the current document
    near : w < suc doc - s → slots (ahead f s a ms) (suc doc) (edge s w - suc doc) ≡ slots (λ d. a (d - s)) (s + 0) w
    near l =
        slots_none (ahead f s a ms) (suc doc) (edge s w - suc doc) (λ d g k. absurd (omega arith)) ∙
        sym (slots_none (λ d. a (d - s)) (s + 0) w (λ d g k. before (d - s) (omega arith)))

    far : suc doc - s ≤ w → slots (ahead f s a ms) (suc doc) (edge s w - suc doc) ≡ slots (λ d. a (d - s)) (s + 0) w
    far l =
        let i : ℕ = suc doc - s in
        let n : ℕ = edge s w - suc doc in
        let p : w ≡ (suc doc - s) + ((edge s w - suc doc) + (w - (suc doc - s) - (edge s w - suc doc))) = omega arith in
        let q : (s + 0) + (suc doc - s) ≡ suc doc = omega arith in
        sym
        (ap (slots (λ d. a (d - s)) (s + 0)) p ∙
        slots_skip (λ d. a (d - s)) (s + 0) (suc doc - s) ((edge s w - suc doc) + (w - (suc doc - s) - (edge s w - suc doc))) (λ d g k. before (d - s) (omega arith)) ∙
        ap (λ x. slots (λ d. a (d - s)) x ((edge s w - suc doc) + (w - (suc doc - s) - (edge s w - suc doc)))) q ∙
        slots_split (λ d. a (d - s)) (suc doc) (edge s w - suc doc) (w - (suc doc - s) - (edge s w - suc doc)) ∙
        ap (λ xs. slots (λ d. a (d - s)) (suc doc) (edge s w - suc doc) ++ xs)
        (slots_none (λ d. a (d - s)) (suc doc + (edge s w - suc doc)) (w - (suc doc - s) - (edge s w - suc doc)) (λ d g k. top (d - s) (omega arith))) ∙
        nil (slots (λ d. a (d - s)) (suc doc) (edge s w - suc doc)) ∙
        slots_same (λ d. a (d - s)) (ahead f s a ms) (suc doc) (edge s w - suc doc) (λ d g k. sym (ahead_in f s a ms d (omega arith))))
      where
        nil : (xs : List ℕ) → xs ++ [] ≡ xs
        nil [] = refl
        nil (x ∷ xs) = ap (λ l. x ∷ l) (nil xs)

-- ---- a part of the window emptied, once its ids are written

-- the list n is p, then F, then G; F's ids are xs, and n2 is left without F
pub record Skims (n n2 : Meaning) (xs : List ℕ) (hi : ℕ) : Type 0 where
  pub head : Pair
  pub front : List Pair
  pub back : List Pair
  pub list : n.pairs ≡ head ∷ (front ++ back)
  pub written : ids front ≡ xs
  pub leaves : n2 ≡ calm (head ∷ back)
  pub low : (k : ℕ) → k < length front → first_id (drop k (front ++ back)) < hi

listed_below :
    (tell : Tally → Float) (a : ℕ → Cell) (lo n k : ℕ) (qs : List Pair) → k < length (listed tell a lo n) →
    first_id (drop k (listed tell a lo n ++ qs)) < lo + n
unfolding listed
listed_below tell a lo zero k qs h = absurd (omega arith)
listed_below tell a lo (suc n) k qs h = go (a lo) k (λ j l. listed_below tell a (suc lo) n j qs l) h
  where
    go :
        (c : Cell) (j : ℕ) →
        ((i : ℕ) → i < length (listed tell a (suc lo) n) → first_id (drop i (listed tell a (suc lo) n ++ qs)) < suc lo + n) →
        j < length (entry tell lo c (listed tell a (suc lo) n)) →
        first_id (drop j (entry tell lo c (listed tell a (suc lo) n) ++ qs)) < lo + suc n
    go none j ih l = let z = ih j l in omega arith
    go (some t) zero ih l = omega arith
    go (some t) (suc j) ih l = let z = ih j (omega arith) in omega arith

pub skims :
    (f : Tally → Float → Tally) (tell : Tally → Float) (s doc w : ℕ) (x : Float) (a b : ℕ → Cell) (ms : List Meaning) (cr : ℕ) →
    s ≤ doc → doc < TERM → doc < s + 4096 → w ≤ 4096 → ((k : ℕ) → s + k ≤ doc → a k ≡ none) → ((k : ℕ) → TERM ≤ s + k → a k ≡ none) →
    Wiped a b w → Steady (union_meaning f tell s doc x a ms cr) →
    Skims (union_meaning f tell s doc x a ms cr) (union_meaning f tell s doc x b ms cr) (shifted s (slots a 0 w)) (bound s doc)
skims f tell s doc w x a b ms cr le lt span wide before top v st =
    record {
      head = record { id = doc; score = x };
      front = listed tell (ahead f s a ms) (suc doc) (edge s w - suc doc);
      back = listed tell (ahead f s a ms) (suc doc + (edge s w - suc doc)) (TERM - suc doc - (edge s w - suc doc));
      list = ap (λ m. m.pairs) (is_calm f tell s doc x a ms cr e) ∙ stands tell (ahead f s a ms) doc x lt ∙
          ap (λ ps. record { id = doc; score = x } ∷ ps) (split (ahead f s a ms));
      written = ids_listed tell (ahead f s a ms) (suc doc) (edge s w - suc doc) ∙ window_ids f s doc w a ms le lt wide before top;
      leaves = is_calm f tell s doc x b ms cr e ∙ ap calm (stands tell (ahead f s b ms) doc x lt ∙
          ap (λ ps. record { id = doc; score = x } ∷ ps)
          (split (ahead f s b ms) ∙
          ap (λ ps. ps ++ listed tell (ahead f s b ms) (suc doc + (edge s w - suc doc)) (TERM - suc doc - (edge s w - suc doc)))
          (listed_none tell (ahead f s b ms) (suc doc) (edge s w - suc doc) (λ d g l. ahead_in f s b ms d (omega arith) ∙ v.below (d - s) (omega arith))) ∙
          listed_same tell (ahead f s b ms) (ahead f s a ms) (suc doc + (edge s w - suc doc)) (TERM - suc doc - (edge s w - suc doc))
          (λ d g l. later d g (cases_lt d (reach s)))));
      low = λ k l.
          let z = listed_below tell (ahead f s a ms) (suc doc) (edge s w - suc doc) k (listed tell (ahead f s a ms) (suc doc + (edge s w - suc doc)) (TERM - suc doc - (edge s w - suc doc))) l in
          let y = bound_on s doc lt in
          omega arith;
    }
  where
    e : settled (bound s doc) ms ≡ true
    e = is_settled f tell s doc x a ms cr st

    split :
        (c : ℕ → Cell) →
        listed tell c (suc doc) (TERM - suc doc) ≡
        listed tell c (suc doc) (edge s w - suc doc) ++ listed tell c (suc doc + (edge s w - suc doc)) (TERM - suc doc - (edge s w - suc doc))
    split c =
        let p : TERM - suc doc ≡ (edge s w - suc doc) + (TERM - suc doc - (edge s w - suc doc)) = omega arith in
        ap (listed tell c (suc doc)) p ∙ listed_split tell c (suc doc) (edge s w - suc doc) (TERM - suc doc - (edge s w - suc doc))

    later : (d : ℕ) → suc doc + (edge s w - suc doc) ≤ d → (d < reach s) ⊎ (reach s ≤ d) → ahead f s b ms d ≡ ahead f s a ms d
    later d g (inl l) = ahead_in f s b ms d l ∙ v.others (d - s) (omega arith) ∙ sym (ahead_in f s a ms d l)
    later d g (inr l) = ahead_out f s b ms d l ∙ sym (ahead_out f s a ms d l)

pub skims_shorter :
    (f : Tally → Float → Tally) (tell : Tally → Float) (s doc w : ℕ) (x : Float) (a b : ℕ → Cell) (ms : List Meaning) (cr : ℕ) →
    (Steady (union_meaning f tell s doc x a ms cr) → (xs : List ℕ) × ((hi : ℕ) × Skims (union_meaning f tell s doc x a ms cr) (union_meaning f tell s doc x b ms cr) xs hi)) →
    Wiped a b w → length (union_meaning f tell s doc x b ms cr).pairs ≤ length (union_meaning f tell s doc x a ms cr).pairs
skims_shorter f tell s doc w x a b ms cr k v = ⊎_elim steady_one lost_one (cases_Bool (settled (bound s doc) ms))
  where
    steady_one : settled (bound s doc) ms ≡ true → length (union_meaning f tell s doc x b ms cr).pairs ≤ length (union_meaning f tell s doc x a ms cr).pairs
    steady_one e =
        let q = (k (ap (λ m. m.mark) (is_calm f tell s doc x a ms cr e))).1.1 in
        let l1 = ap length q.list in
        let l2 = ap (λ m. length m.pairs) q.leaves in
        let l3 = length-append q.front q.back in
        omega arith

    lost_one : settled (bound s doc) ms ≡ false → length (union_meaning f tell s doc x b ms cr).pairs ≤ length (union_meaning f tell s doc x a ms cr).pairs
    lost_one e =
        let l1 = lost_length f tell s doc x a ms cr e in
        let l2 = lost_length f tell s doc x b ms cr e in
        let h = count_fewer a b 0 4096 (λ d g. ⊎_elim (λ l. inl (v.below d l)) (λ l. inr (v.others d l)) (cases_lt d w)) in
        omega arith

-- ---- a block

-- the buffer once d is written at i and xs after it
written_more :
    (all old new xs ys : List ℕ) (i d r : ℕ) → length old ≡ 64 → i < 64 → i < length all → drop i all ≡ d ∷ (xs ++ ys) → d ≡ get_or all i 0 →
    new ≡ take i all ++ drop i old → r ≡ (i + 1) + length xs → r ≤ 64 →
    take (i + 1) (set new i d) ++ (xs ++ drop r (set new i d)) ≡ take r all ++ drop r old
written_more all old new xs ys i d r lo lt inside e q n rr le =
    ap (λ l. take (i + 1) l ++ (xs ++ drop r l)) whole ∙
    ap (λ l. l ++ (xs ++ drop r (take (suc i) all ++ drop (suc i) old))) first ∙
    ap (λ l. take (suc i) all ++ (xs ++ l)) last ∙
    sym (append_assoc (take (suc i) all) xs (drop r old)) ∙
    ap (λ l. l ++ drop r old) (sym taken)
  where
    long : length (take (suc i) all) ≡ suc i
    long = length-take-le (suc i) all (omega arith)

    whole : set new i d ≡ take (suc i) all ++ drop (suc i) old
    whole =
        ap (λ l. set l i d) n ∙ ap (set (take i all ++ drop i old) i) q ∙ set_seam all old i inside (omega arith)

    first : take (i + 1) (take (suc i) all ++ drop (suc i) old) ≡ take (suc i) all
    first = let z = long in let p : i + 1 ≡ length (take (suc i) all) = omega arith in ap (λ k. take k (take (suc i) all ++ drop (suc i) old)) p ∙ take-append_seam (take (suc i) all) (drop (suc i) old)

    last : drop r (take (suc i) all ++ drop (suc i) old) ≡ drop r old
    last =
        let z = long in
        let p : r ≡ length (take (suc i) all) + length xs = omega arith in
        let o : suc i + length xs ≡ r = omega arith in
        ap (λ k. drop k (take (suc i) all ++ drop (suc i) old)) p ∙ drop-append-add (take (suc i) all) (drop (suc i) old) (length xs) ∙
        drop-drop (length xs) (suc i) old ∙ ap (λ k. drop k old) o

    tail : drop (suc i) all ≡ xs ++ ys
    tail = let p : i + 1 ≡ suc i = omega arith in sym (ap (λ k. drop k all) p) ∙ sym (drop-drop 1 i all) ∙ ap (drop 1) e

    taken : take r all ≡ take (suc i) all ++ xs
    taken =
        let z = long in
        let p : r ≡ length (take (suc i) all) + length xs = omega arith in
        ap (take r) (sym (take-append-drop (suc i) all)) ∙ ap (λ k. take k (take (suc i) all ++ drop (suc i) all)) p ∙
        take-append-add (take (suc i) all) (drop (suc i) all) (length xs) ∙
        ap (λ l. take (suc i) all ++ l) (ap (take (length xs)) tail ∙ take-append_seam xs ys)

ids_drop : (i : ℕ) (ps : List Pair) → ids (drop i ps) ≡ drop i (ids ps)
ids_drop zero ps = refl
ids_drop (suc i) [] = refl
ids_drop (suc i) (p ∷ ps) = ids_drop i ps

ids_append : (ps qs : List Pair) → ids (ps ++ qs) ≡ ids ps ++ ids qs
ids_append [] qs = refl
ids_append (p ∷ ps) qs = ap (λ l. p.id ∷ l) (ids_append ps qs)

-- d is written, then the ids xs of the window, and the union goes on to e
pub fill_skims :
    (m n n2 o : Meaning) (old new new2 xs : List ℕ) (i d e r hi : ℕ) → length old ≡ 64 → Filling m n old new i d → i < 64 → (d ≡ TERM → ⊥) →
    (Steady n → Skims n n2 xs hi) → length n2.pairs ≤ length n.pairs → Told n2 d →
    new2 ≡ take (i + 1) (set new i d) ++ (xs ++ drop r (set new i d)) → r ≡ (i + 1) + length xs → r ≤ 64 → Moved n2 o e →
    Filling m o old new2 r e
fill_skims m n n2 o old new new2 xs i d e r hi lo v lt ne k shrinks u bufs rr le h =
    record {
      along = along_steps m n2 o d e
          (record {
            an_id = a.an_id;
            shrinks = omega (arith, a.shrinks, shrinks);
            still = λ s. ap (λ m. m.mark) (k (a.still s)).leaves;
            rises = λ s. u.rises (steady_known n2.mark (ap (λ m. m.mark) (k (a.still s)).leaves));
            tells = λ s. u.tells (ap (λ m. m.mark) (k (a.still s)).leaves);
          })
          h;
      at_most = le;
      wide = ap length bufs ∙ length-append (take (i + 1) (set new i d)) (xs ++ drop r (set new i d)) ∙
          (let p = length-append xs (drop r (set new i d)) in let q = length-drop r (set new i d) in let y = length-set new i d in let z = length-take (i + 1) (set new i d) in
          let w = v.wide in omega arith);
      drops = λ s.
          let q = k (a.still s) in
          ap (λ m. m.pairs) (h.becomes (ap (λ m. m.mark) q.leaves)) ∙ ap (λ m. rest m.pairs) q.leaves ∙ sym (gone s);
      reach = λ s.
          let q = k (a.still s) in
          let l1 = ap length (sym (v.drops s) ∙ q.list) in
          let l2 = length-drop i m.pairs in
          let l3 = length-append q.front q.back in
          let l4 = ap length q.written in
          let l5 = length_ids q.front in
          omega arith;
      writes = λ s.
          let q = k (a.still s) in
          let whole = ap ids (sym (v.drops s) ∙ q.list) in
          bufs ∙ written_more (ids m.pairs) old new xs (ids q.back) i d r lo lt (inside s)
          (sym (ids_drop i m.pairs) ∙ whole ∙ ap (λ x. x ∷ ids (q.front ++ q.back)) (sym (first s)) ∙ ap (λ l. d ∷ l) (ids_append q.front q.back ∙ ap (λ l. l ++ ids q.back) q.written))
          (first s ∙ ap first_id (sym q.list ∙ v.drops s) ∙ first_at m.pairs i (omega (arith, inside s, length_ids m.pairs)))
          (v.writes s) rr le;
    }
  where
    a : Along m n d
    a = v.along

    first : (s : Steady m) → d ≡ (k (v.along.still s)).head.id
    first s = v.along.tells s ∙ ap first_id (k (v.along.still s)).list

    inside : Steady m → i < length (ids m.pairs)
    inside s =
        let q = k (v.along.still s) in
        let l1 = ap length (sym (v.drops s) ∙ q.list) in
        let l2 = length-drop i m.pairs in
        let l4 = length_ids m.pairs in
        omega arith

    gone : (s : Steady m) → drop r m.pairs ≡ (k (v.along.still s)).back
    gone s =
        let q = k (v.along.still s) in
        let l4 = ap length q.written in
        let l5 = length_ids q.front in
        let p : r ≡ i + suc (length q.front) = omega arith in
        ap (λ x. drop x m.pairs) p ∙ sym (drop-drop (suc (length q.front)) i m.pairs) ∙
        ap (drop (suc (length q.front))) (sym (v.drops s) ∙ q.list) ∙ drop-append_seam q.front q.back

-- how far the sets are read while ids of the window are passed
pub through_within :
    (h d s i j : ℕ) (ps : List Pair) (P Q : List Meaning) → (settled h P ≡ true → (k : ℕ) → k < j → first_id (drop (suc (i + k)) ps) < bound s d) →
    ReadsThrough h (trail i ps) d s P Q → ReadsThrough h (trail (i + j) ps) d s P Q
through_within h d s i zero ps P Q low v =
    let p : i ≡ i + 0 = omega arith in let F : ℕ → Type 0 = λ x. ReadsThrough h (trail x ps) d s P Q in subst F p v
through_within h d s i (suc j) ps P Q low v =
    let t = through_within h d s i j ps P Q (λ z k l. low z k (omega arith)) v in
    let p : suc (i + j) ≡ i + suc j = omega arith in
    let same : settled h P ≡ true → reach_after h (trail (i + suc j) ps) ≡ reach_after h (trail (i + j) ps) =
    λ z.
    ap (λ x. reach_after h (trail x ps)) (sym p) ∙ ap (reach_after h) (trail_snoc (i + j) ps) ∙
    after_snoc h (first_id (drop (suc (i + j)) ps)) (trail (i + j) ps) ∙
    next_in (reach_after h (trail (i + j) ps)) (first_id (drop (suc (i + j)) ps)) (let b = t.begins z in let l = low z j (omega arith) in omega arith) in
    record {
      list = λ z. t.list z ∙ ap (λ x. passed x P) (sym (same z));
      begins = λ z. t.begins z ∙ sym (same z);
    }

-- ---- a count

-- the current document, what the window holds, and the union of the sets
pub window_length :
    (f : Tally → Float → Tally) (tell : Tally → Float) (s doc : ℕ) (x : Float) (a : ℕ → Cell) (ms : List Meaning) (cr : ℕ) →
    s ≤ doc → doc < TERM → doc < s + 4096 → ((k : ℕ) → s + k ≤ doc → a k ≡ none) → ((k : ℕ) → TERM ≤ s + k → a k ≡ none) →
    (AllSteady ms → AllRising ms) → settled (bound s doc) ms ≡ true →
    length (union_meaning f tell s doc x a ms cr).pairs ≡ suc (count a 0 4096 + length (union_list f tell ms))
window_length f tell s doc x a ms cr le lt span before top rises e =
    let z = settled_is (bound s doc) ms e in
    let b = bound_on s doc lt in
    let low = z.1 in
    let q : edge s 4096 ≡ reach s = omega arith in
    let p : TERM - suc doc ≡ (reach s - suc doc) + (TERM - reach s) = omega arith in
    let o : suc doc + (reach s - suc doc) ≡ reach s = omega arith in
    let l1 = ap (λ m. length m.pairs) (is_calm f tell s doc x a ms cr e) in
    let l2 = ap length (stands tell (ahead f s a ms) doc x lt) in
    let l3 = ap length (ap (listed tell (ahead f s a ms) (suc doc)) p ∙ listed_split tell (ahead f s a ms) (suc doc) (reach s - suc doc) (TERM - reach s)) in
    let l4 = length-append (listed tell (ahead f s a ms) (suc doc) (reach s - suc doc)) (listed tell (ahead f s a ms) (suc doc + (reach s - suc doc)) (TERM - reach s)) in
    let l5 = length_listed tell (ahead f s a ms) (suc doc) (reach s - suc doc) in
    let l6 = ap (λ h. length (slots (ahead f s a ms) (suc doc) (h - suc doc))) q in
    let l7 = ap length (window_ids f s doc 4096 a ms le lt (omega arith) before top) in
    let l8 = length-map (slots a 0 4096) (λ (d : ℕ). s + d) in
    let l9 =
    ap length
    (ap (λ y. listed tell (ahead f s a ms) y (TERM - reach s)) o ∙
    listed_same tell (ahead f s a ms) (united f ms) (reach s) (TERM - reach s) (λ d g l. ahead_out f s a ms d g) ∙
    sym (union_low f tell ms (reach s) (rises z.0) (omega arith))) in
    omega arith

-- opening a new window drops the current document and what was in the window
pub opened_less :
    (f : Tally → Float → Tally) (tell : Tally → Float) (s doc r : ℕ) (x : Float) (a : ℕ → Cell) (ms : List Meaning) (cr : ℕ) (n : Meaning) →
    s ≤ doc → doc < TERM → doc < s + 4096 → ((k : ℕ) → s + k ≤ doc → a k ≡ none) → ((k : ℕ) → TERM ≤ s + k → a k ≡ none) →
    Opened f tell ms cr n r → length n.pairs < length (union_meaning f tell s doc x a ms cr).pairs
opened_less f tell s doc r x a ms cr n le lt span before top o =
    ⊎_elim
    (λ e.
    let l1 = window_length f tell s doc x a ms cr le lt span before top o.rises e in
    let l2 = ap (λ m. length m.pairs) (o.becomes (settled_is (bound s doc) ms e).0) in
    omega arith)
    (λ e. let l1 = lost_length f tell s doc x a ms cr e in let l2 = o.small in let l3 = on_one doc lt in omega arith)
    (cases_Bool (settled (bound s doc) ms))
