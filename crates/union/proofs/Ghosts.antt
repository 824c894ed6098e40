-- What the fields of a union keep between calls.
use Rattle.std.proofs.Common.{◌≡◌, ℕ, suc, ◌+◌, ◌-◌, ◌<◌, ◌≤◌, List, [], ◌∷◌, sym, refl, ap, ◌∙◌, subst, ⊎_elim, arith}
use lib.Ieee.{Float}
use Rattle.combiner.specs.declared.score_combiner.Tally.{Tally}
use Rattle.window.specs.Slots.{slot}
use Rattle.window.specs.declared.window.Window.{Window}
use Rattle.union.specs.declared.buffered_union.BufferedUnionScorer.{BufferedUnionScorer}
use Rattle.combiner.specs.Cells.{Cell, none, count}
use Rattle.combiner.proofs.Cells.{count_none, listed_none}
use Rattle.window.specs.Windows.{cells, Next, Ended, Wiped}
use Rattle.std.proofs.lemmas.Bool.{cases_lt, cases_eq}
use Rattle.window.proofs.Held.{slot_none, none_slot}
use Rattle.docset.specs.Meaning.{Meaning, TERM, Steady, calm, first_id}
use Rattle.bank.specs.Places.{Rows, at}
use Rattle.live.specs.Sets.{AllSteady, AllRising, lowest_of, passed}
use Rattle.live.specs.Lists.{united}
use Rattle.live.proofs.Keeps.{steady_all, steady_at}
use Rattle.refill.specs.Refills.{reach, Refilled}
use Rattle.refill.specs.State.{union_meaning, union_means, Opened, Anew}
use Rattle.live.proofs.Thresholds.{total}
use Rattle.refill.proofs.States.{bound_end, union_low}
use Rattle.refill.proofs.Moves.{first_is, idle_calm, opened_none, small}
use Rattle.refill.proofs.Reaches.{passed_same, anew_none}

-- ---- a union as it stands

-- what it means, as its `meaning` says it
abbrev pub meant : {B C : Type 0} → (B → Rows) → (C → Tally → Float → Tally) → (C → Tally → Float) → BufferedUnionScorer B C → Meaning
meant rows take tell u =
    union_means (take u.combiner) (tell u.combiner) u.start u.doc u.score u.window u.sets.live (rows u.sets.bank).places

-- and with another window
abbrev pub meant_with : {B C : Type 0} → (B → Rows) → (C → Tally → Float → Tally) → (C → Tally → Float) → BufferedUnionScorer B C → Window → Meaning
meant_with rows take tell u v =
    union_means (take u.combiner) (tell u.combiner) u.start u.doc u.score v u.sets.live (rows u.sets.bank).places

pub none_before : {B C : Type 0} (u : BufferedUnionScorer B C) (k : ℕ) → u.start + k ≤ u.doc → cells u.window k ≡ none
none_before u k l = slot_none u.window.words u.window.tallies k (u.before k l)

pub none_past : {B C : Type 0} (u : BufferedUnionScorer B C) (k : ℕ) → TERM ≤ u.start + k → cells u.window k ≡ none
none_past u k l = slot_none u.window.words u.window.tallies k (u.top k l)

-- ---- what the struct's own fields keep

-- a union that stands on doc, with the window v from s on
abbrev pub Fields : ℕ → ℕ → Window → Type 0
Fields s doc v =
    record {
      an_id : doc ≤ TERM;
      begun : s ≤ doc;
      span : doc < TERM → doc < s + 4096;
      before : (k : ℕ) → s + k ≤ doc → slot v.words k ≡ 0;
      top : (k : ℕ) → TERM ≤ s + k → slot v.words k ≡ 0;
    }

-- a slot that is taken out is an id
pub next_inside : (s e : ℕ) (v w : Window) (t : Tally) → ((k : ℕ) → TERM ≤ s + k → cells v k ≡ none) → Next (cells v) (cells w) e t → s + e < TERM
next_inside s e v w t top n =
    ⊎_elim (λ h. h) (λ h. absurd (let q = top e h in let w = n.was in let z : ◌≡◌ {A = ℕ} 0 1 = cc in omega arith)) (cases_lt (s + e) TERM)

pub fields_next : (s e : ℕ) (v w : Window) (t : Tally) → ((k : ℕ) → TERM ≤ s + k → cells v k ≡ none) → Next (cells v) (cells w) e t → Fields s (s + e) w
fields_next s e v w t top n =
    let inside = next_inside s e v w t top n in
    record {
      an_id = omega arith;
      begun = omega arith;
      span = λ l. let i = n.inside in omega arith;
      before = λ k l. empty k (λ q. n.below k (omega (arith, q)));
      top = λ k l. empty k (λ q. top k l);
    }
  where
    empty : (k : ℕ) → ((k ≡ e → ⊥) → cells v k ≡ none) → slot w.words k ≡ 0
    empty k h = none_slot w.words w.tallies k (⊎_elim (λ q. ap (cells w) q ∙ n.here) (λ q. n.others k q ∙ h q) (cases_eq k e))

pub fields_none : (s doc : ℕ) (v : Window) → doc ≤ TERM → s ≤ doc → (doc < TERM → doc < s + 4096) → ((k : ℕ) → cells v k ≡ none) → Fields s doc v
fields_none s doc v le ge span z =
    record { an_id = le; begun = ge; span = span; before = λ k l. none_slot v.words v.tallies k (z k); top = λ k l. none_slot v.words v.tallies k (z k) }

-- emptied cells keep the fields
pub fields_wiped : {B C : Type 0} (u : BufferedUnionScorer B C) (w : ℕ) (v : Window) → Wiped (cells u.window) (cells v) w → Fields u.start u.doc v
fields_wiped u w v z =
    record { an_id = u.an_id; begun = u.begun; span = u.span; before = λ k l. empty k (none_before u k l); top = λ k l. empty k (none_past u k l) }
  where
    empty : (k : ℕ) → cells u.window k ≡ none → slot v.words k ≡ 0
    empty k q = none_slot v.words v.tallies k (⊎_elim (z.below k) (λ l. z.others k l ∙ q) (cases_lt k w))

-- ---- sets alike place by place

pub lowest_alike : (X Y : List Meaning) → ((k : ℕ) → at X k ≡ at Y k) → lowest_of X ≡ lowest_of Y
lowest_alike [] [] h = refl
lowest_alike [] (y ∷ Y) h =
    let a = ap (λ (m : Meaning). first_id m.pairs) (h 0) in let b = lowest_alike [] Y (λ k. h (suc k)) in omega arith
lowest_alike (x ∷ X) [] h =
    let a = ap (λ (m : Meaning). first_id m.pairs) (h 0) in let b = lowest_alike X [] (λ k. h (suc k)) in omega arith
lowest_alike (x ∷ X) (y ∷ Y) h =
    let a = ap (λ (m : Meaning). first_id m.pairs) (h 0) in let b = lowest_alike X Y (λ k. h (suc k)) in omega arith

-- ---- opening a window

-- where every word is skipped, nothing is held
pub skipped_all : (a b : ℕ → Cell) → Wiped a b 4096 → ((e : ℕ) → 4096 ≤ e → b e ≡ none) → (e : ℕ) → b e ≡ none
skipped_all a b w past e = ⊎_elim (w.below e) (past e) (cases_lt e 4096)

-- what a new window holds lies before its end, so it starts at an id
pub next_low : (low e : ℕ) (t : Tally) (f : Tally → Float → Tally) (P Q : List Meaning) (a b c : ℕ → Cell) → ((k : ℕ) → a k ≡ none) → Refilled f low (reach low) P Q a b → Next b c e t → low < TERM
next_low low e t f P Q a b c z v n = ⊎_elim (λ l. l) (λ h. absurd (let w = n.was in let q = v.outside e (omega arith) ∙ z e in let y : ◌≡◌ {A = ℕ} 0 1 = cc in omega arith)) (cases_lt low TERM)

-- a new window that holds nothing: then the sets have ended, or are not all steady
pub opened_nothing : (f : Tally → Float → Tally) (tell : Tally → Float) (P Q : List Meaning) (a b c : ℕ → Cell) (low : ℕ) (x : Float) (cr cr1 : ℕ)
    → low ≤ TERM → (AllSteady P → AllRising P) → (AllSteady P → low ≡ lowest_of P) → ((k : ℕ) → a k ≡ none) → Refilled f low (reach low) P Q a b → Ended b c
    → count b 0 4096 + cr1 ≤ count a 0 4096 + cr → total Q ≤ cr1
    → Opened f tell P cr (union_meaning f tell low TERM x c Q cr1) TERM × Anew P Q low TERM
opened_nothing f tell P Q a b c low x cr cr1 le rises lowest z v n pays tot =
    ⊎_elim
    (λ l. (opened_none f tell P Q a b c low x cr cr1 rises lowest l z v n pays tot, anew_none f P Q a b c low rises lowest l z v n))
    (λ h.
    let q : low ≡ TERM = omega arith in
    let same : AllSteady P → Q ≡ P = λ s. v.becomes (s, rises s) ∙ sym (passed_same (reach low) P s (let k = lowest s in omega arith)) in (
      record {
        an_id = omega arith;
        rises = rises;
        becomes = λ s.
            let l = lowest s in
            let e = same s in
            idle_calm f tell low x c Q cr1 (subst AllSteady (sym e) s) (let k = ap lowest_of e in omega arith) ∙
            ap calm (sym (union_low f tell P TERM (rises s) (omega arith) ∙ listed_none tell (united f P) TERM (TERM - TERM) (λ d g l. absurd (omega arith))));
        tells = first_is f tell low TERM x c Q cr1 (omega arith);
        small =
            let h = small f tell low TERM x c Q cr1 le tot in
            let k = count_none c 0 4096 (λ e g l. n.same e ∙ n.all e) in
            let l = count_none b 0 4096 (λ k g l. n.all k) in
            let y = count_none a 0 4096 (λ k g l. z k) in
            omega arith;
      },
      record {
        lowest = λ s. sym q ∙ lowest s;
        list = λ s. v.becomes (s, rises s) ∙ ap (λ h. passed (reach h) P) q;
        begins = λ s. bound_end low TERM (omega arith);
      },
    ))
    (cases_lt low TERM)

pub alike_steady : (Q P : List Meaning) → ((k : ℕ) → at Q k ≡ at P k) → AllSteady P → AllSteady Q
alike_steady Q P e s = steady_all Q (λ k l. subst Steady (sym (e k)) (steady_at P k s))
