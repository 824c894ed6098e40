-- How far a union has read.
use Rattle.std.proofs.Common.{◌≡◌, ℕ, zero, suc, ◌+◌, ◌-◌, ◌<◌, ◌≤◌, Bool, true, false, cond, ltb, ◌⊎◌, List, [], ◌∷◌, ◌++◌, drop, sym, refl, ap, ◌∙◌, subst, inl, inr, ⊎_elim, arith, ltb-true, le-ltb, lt-ltb}
use lib.Ieee.{Float}
use Rattle.combiner.specs.declared.score_combiner.Tally.{Tally}
use Rattle.combiner.specs.Cells.{Cell, none}
use Rattle.window.specs.Windows.{Next, Ended}
use Rattle.std.proofs.lemmas.Bool.{cases_lt}
use Rattle.docset.specs.Meaning.{Meaning, Pair, TERM, calm, from, first_id, rest}
use Rattle.live.specs.Sets.{passed, lowest_of, AllSteady, AllRising}
use Rattle.docset.proofs.Lists.{from_all}
use Rattle.live.proofs.Keeps.{lowest_le}
use Rattle.refill.specs.Refills.{Refilled, reach}
use Rattle.refill.specs.State.{bound, settled, next_reach, Anew, Reads, ReadsThrough, trail, reach_after}
use Rattle.refill.proofs.States.{filled_some, settled_is, settled_passed, bound_on, bound_end}
use Rattle.live.proofs.Passed.{passed_steady, lowest_passed}
use Rattle.refill.proofs.Seeks.{from_none}

-- sets that are read to h already
pub passed_same : (h : ℕ) (ms : List Meaning) → AllSteady ms → h ≤ lowest_of ms → ms ≡ passed h ms
passed_same h [] s le = refl
passed_same h (m ∷ ms) s le =
    ap (λ x. x ∷ ms) (ap (λ k. record { pairs = m.pairs; mark = k }) s.0 ∙ ap calm (sym (from_all h m.pairs (omega arith))))
    ∙ ap (λ xs. calm (from h m.pairs) ∷ xs) (passed_same h ms s.1 (omega arith))

from_from : (a b : ℕ) (ps : List Pair) → a ≤ b → from b (from a ps) ≡ from b ps
from_from a b [] le = refl
from_from a b (p ∷ ps) le = go (ltb p.id a) refl (from_from a b ps le)
  where
    go : (x : Bool) → ltb p.id a ≡ x → from b (from a ps) ≡ from b ps → from b (cond x (from a ps) (p ∷ ps)) ≡ from b (p ∷ ps)
    go true e ih = let l = ltb-true p.id a e in let t = lt-ltb p.id b (omega arith) in rw t ih
    go false e ih = refl

pub passed_passed : (a b : ℕ) (ms : List Meaning) → a ≤ b → passed b (passed a ms) ≡ passed b ms
passed_passed a b [] le = refl
passed_passed a b (m ∷ ms) le = let x = from_from a b m.pairs le in let y = passed_passed a b ms le in rw (x, y)

passed_all : (t : ℕ) (ms : List Meaning) → AllRising ms → TERM ≤ t → passed t ms ≡ passed TERM ms
passed_all t [] r le = refl
passed_all t (m ∷ ms) r le =
    let x = from_none t 0 m.pairs le r.0 ∙ sym (from_none TERM 0 m.pairs (omega arith) r.0) in
    let y = passed_all t ms r.1 le in rw (x, y)

pub next_in : (h d : ℕ) → d < h → next_reach h d ≡ h
next_in h d lt = let t = lt-ltb d h lt in rw t

next_out : (h d : ℕ) → h ≤ d → next_reach h d ≡ reach d
next_out h d le = let t = le-ltb d h le in rw t

-- nothing moved
next_same : (s doc : ℕ) → doc ≤ TERM → (doc < TERM → doc < s + 4096) → next_reach (bound s doc) doc ≡ bound s doc
next_same s doc le span = ⊎_elim
    (λ lt. let b = bound_on s doc lt in let z = span lt in next_in (bound s doc) doc (omega arith))
    (λ ge. let b = bound_end s doc ge in next_out (bound s doc) doc (omega arith) ∙ (let q : reach doc ≡ TERM = omega arith in q) ∙ sym b)
    (cases_lt doc TERM)

pub reads_same : (s doc : ℕ) (P : List Meaning) → doc ≤ TERM → (doc < TERM → doc < s + 4096) → Reads (bound s doc) doc s P P
reads_same s doc P le span =
    let e = next_same s doc le span in
    record {
      list = λ z. let w = settled_is (bound s doc) P z in passed_same (bound s doc) P w.0 w.1 ∙ ap (λ h. passed h P) (sym e);
      begins = λ z. sym e;
    }

-- a document of the window
pub reads_next : (s doc d : ℕ) (P : List Meaning) → doc < TERM → d < TERM → d < s + 4096 → Reads (bound s doc) d s P P
reads_next s doc d P lt l sp =
    let b = bound_on s doc lt in
    let e = next_in (bound s doc) d (omega arith) in
    record {
      list = λ z. let w = settled_is (bound s doc) P z in passed_same (bound s doc) P w.0 w.1 ∙ ap (λ h. passed h P) (sym e);
      begins = λ z. bound_on s d l ∙ sym b ∙ sym e;
    }

pub reads_anew : (s doc doc1 r s1 : ℕ) (P Q : List Meaning) → doc1 ≡ r → Anew P Q s1 r → Reads (bound s doc) doc1 s1 P Q
reads_anew s doc doc1 r s1 P Q q a = record {
  list = λ z. let w = settled_is (bound s doc) P z in let l = a.lowest w.0 in let k = w.1 in
      a.list w.0 ∙ ap (λ h. passed h P) (sym (next_out (bound s doc) doc1 (omega arith) ∙ ap reach q));
  begins = λ z. let w = settled_is (bound s doc) P z in let l = a.lowest w.0 in let k = w.1 in
      ap (bound s1) q ∙ a.begins w.0 ∙ sym (next_out (bound s doc) doc1 (omega arith) ∙ ap reach q);
}

-- one more step before the end of the window
pub reads_more : (h d d1 s s1 : ℕ) (P Q R : List Meaning) → d < h → Reads h d s P Q → Reads (bound s d) d1 s1 Q R → Reads h d1 s1 P R
reads_more h d d1 s s1 P Q R lt v w = record {
  list = λ z. w.list (still z) ∙ ap (λ k. passed (next_reach k d1) Q) (same z) ∙ ap (passed (next_reach h d1)) (v.list z ∙ ap (λ k. passed k P) (next_in h d lt)) ∙ passed_passed h (next_reach h d1) P (grows (cases_lt d1 h) z);
  begins = λ z. w.begins (still z) ∙ ap (λ k. next_reach k d1) (same z);
}
  where
    same : settled h P ≡ true → bound s d ≡ h
    same z = v.begins z ∙ next_in h d lt

    still : settled h P ≡ true → settled (bound s d) Q ≡ true
    still z = let k = settled_is h P z in let l = lowest_le P in let m = k.1 in
        ap (λ x. settled x Q) (same z) ∙ ap (settled h) (v.list z ∙ ap (λ k. passed k P) (next_in h d lt)) ∙ settled_passed h P (omega arith)

    grows : (d1 < h) ⊎ (h ≤ d1) → settled h P ≡ true → h ≤ next_reach h d1
    grows (inl l) z = let e = next_in h d1 l in omega arith
    grows (inr l) z = let e = next_out h d1 l in let k = (settled_is h P z).1 in let m = lowest_le P in omega arith

pub reads_far : (s doc t doc1 r s1 : ℕ) (P Q R : List Meaning) → doc < TERM → reach s ≤ t → doc1 ≡ r → (AllSteady P → AllRising P) → (AllSteady P → Q ≡ passed t P) → Anew Q R s1 r → Reads (bound s doc) doc1 s1 P R
reads_far s doc t doc1 r s1 P Q R lt le q rises sent a = record {
  list = λ z. a.list (steady z) ∙ ap (passed (reach r)) (sent (all z)) ∙ ⊎_elim (λ l. near z l) (λ l. past z l) (cases_lt t TERM) ∙ ap (λ h. passed h P) (sym (next z));
  begins = λ z. ap (bound s1) q ∙ a.begins (steady z) ∙ sym (next z);
}
  where
    all : settled (bound s doc) P ≡ true → AllSteady P
    all z = (settled_is (bound s doc) P z).0

    steady : settled (bound s doc) P ≡ true → AllSteady Q
    steady z = let F : List Meaning → Type 0 = λ X. AllSteady X in subst F (sym (sent (all z))) (passed_steady t P)

    low : settled (bound s doc) P ≡ true → r ≡ lowest_of (passed t P)
    low z = a.lowest (steady z) ∙ ap lowest_of (sent (all z))

    high : settled (bound s doc) P ≡ true → TERM ≤ t → r ≡ TERM
    high z l = low z ∙ ap lowest_of (passed_all t P (rises (all z)) l) ∙ (let h = lowest_passed TERM P (omega arith) in let k = lowest_le (passed TERM P) in omega arith)

    far : settled (bound s doc) P ≡ true → (t < TERM) ⊎ (TERM ≤ t) → reach s ≤ r
    far z (inl l) = let h = lowest_passed t P (omega arith) in let k = low z in omega arith
    far z (inr l) = let k = high z l in omega arith

    next : settled (bound s doc) P ≡ true → next_reach (bound s doc) doc1 ≡ reach r
    next z = let b = bound_on s doc lt in let f = far z (cases_lt t TERM) in next_out (bound s doc) doc1 (omega arith) ∙ ap reach q

    near : settled (bound s doc) P ≡ true → t < TERM → passed (reach r) (passed t P) ≡ passed (reach r) P
    near z l = passed_passed t (reach r) P (let h = lowest_passed t P (omega arith) in let k = low z in omega arith)

    past : settled (bound s doc) P ≡ true → TERM ≤ t → passed (reach r) (passed t P) ≡ passed (reach r) P
    past z l = let k = high z l in let e : reach r ≡ TERM = omega arith in ap (λ h. passed h (passed t P)) e ∙ ap (passed TERM) (passed_all t P (rises (all z)) l) ∙ passed_passed TERM TERM P (omega arith) ∙ ap (λ h. passed h P) (sym e)

-- a window that opens at the end, from wherever it starts
pub anew_end : (P : List Meaning) (s low : ℕ) → (AllSteady P → low ≡ lowest_of P) → low ≡ TERM → Anew P P s TERM
anew_end P s low h q = record {
  lowest = λ z. sym q ∙ h z;
  list = λ z. passed_same (reach TERM) P z (let k = h z in omega arith);
  begins = λ z. bound_end s TERM (omega arith);
}

pub anew_some : (f : Tally → Float → Tally) (P Q : List Meaning) (a b c : ℕ → Cell) (low e : ℕ) (t : Tally) → (AllSteady P → AllRising P) → (AllSteady P → low ≡ lowest_of P) → low < TERM → ((k : ℕ) → a k ≡ none) → Refilled f low (reach low) P Q a b → Next b c e t → Anew P Q low (low + e)
anew_some f P Q a b c low e t rises lowest lt z v n = record {
  lowest = λ s. let k = zero_is s in let l = lowest s in omega arith;
  list = λ s. let k : low ≡ low + e = (let j = zero_is s in omega arith) in v.becomes (s, rises s) ∙ ap (λ x. passed (reach x) P) k;
  begins = λ s. let k : low ≡ low + e = (let j = zero_is s in omega arith) in bound_on low (low + e) (omega arith) ∙ ap reach k;
}
  where
    first : (k : ℕ) → e ≡ suc k → AllSteady P → ⊥
    first k q s =
        let w = filled_some f P Q a b low (s, rises s) (lowest s) lt z v in
        let x = w.1 in
        let y = n.below 0 (omega arith) in
        let o : ◌≡◌ {A = ℕ} 0 1 = cc in omega arith

    zero_is : AllSteady P → e ≡ 0
    zero_is s = ⊎_elim (λ h. omega arith) (λ h. absurd (first (e - 1) (omega arith) s)) (cases_lt e 1)

pub anew_none : (f : Tally → Float → Tally) (P Q : List Meaning) (a b c : ℕ → Cell) (low : ℕ) → (AllSteady P → AllRising P) → (AllSteady P → low ≡ lowest_of P) → low < TERM → ((k : ℕ) → a k ≡ none) → Refilled f low (reach low) P Q a b → Ended b c → Anew P Q low TERM
anew_none f P Q a b c low rises lowest lt z v n = record {
  lowest = λ s. absurd (no s);
  list = λ s. absurd (no s);
  begins = λ s. absurd (no s);
}
  where
    no : AllSteady P → ⊥
    no s =
        let w = filled_some f P Q a b low (s, rises s) (lowest s) lt z v in
        let x = w.1 in
        let y = n.all 0 in
        let o : ◌≡◌ {A = ℕ} 0 1 = cc in omega arith

-- passing ids one by one
pub after_snoc : (h d : ℕ) (ds : List ℕ) → reach_after h (ds ++ (d ∷ [])) ≡ next_reach (reach_after h ds) d
after_snoc h d [] = refl
after_snoc h d (x ∷ ds) = after_snoc (next_reach h x) d ds

drop_rest : (i : ℕ) (ps : List Pair) → drop i (rest ps) ≡ drop (suc i) ps
drop_rest zero [] = refl
drop_rest (suc i) [] = refl
drop_rest i (p ∷ ps) = refl

pub trail_snoc : (i : ℕ) (ps : List Pair) → trail (suc i) ps ≡ trail i ps ++ (first_id (drop (suc i) ps) ∷ [])
trail_snoc zero ps = ap (λ x. first_id x ∷ []) (drop_rest 0 ps)
trail_snoc (suc i) ps = ap (λ x. first_id (rest ps) ∷ x) (trail_snoc i (rest ps) ∙ ap (λ x. trail i (rest ps) ++ (first_id x ∷ [])) (drop_rest (suc i) ps))

bound_le : (s d : ℕ) → bound s d ≤ TERM
bound_le s d = ⊎_elim (λ l. let e = bound_on s d l in omega arith) (λ g. let e = bound_end s d g in omega arith) (cases_lt d TERM)

grows : (h d : ℕ) → h ≤ TERM → h ≤ next_reach h d
grows h d le = ⊎_elim (λ l. let e = next_in h d l in omega arith) (λ g. let e = next_out h d g in omega arith) (cases_lt d h)

pub through_none : (s doc : ℕ) (P : List Meaning) → ReadsThrough (bound s doc) [] doc s P P
through_none s doc P = record {
  list = λ z. let w = settled_is (bound s doc) P z in passed_same (bound s doc) P w.0 w.1;
  begins = λ z. refl;
}

pub through_more : (h d d1 s s1 : ℕ) (ds : List ℕ) (P Q R : List Meaning) → ReadsThrough h ds d s P Q → Reads (bound s d) d1 s1 Q R → ReadsThrough h (ds ++ (d1 ∷ [])) d1 s1 P R
through_more h d d1 s s1 ds P Q R v w = record {
  list = λ z. w.list (still z) ∙ ap (λ k. passed (next_reach k d1) Q) (v.begins z) ∙ ap (passed (next_reach (reach_after h ds) d1)) (v.list z)
      ∙ passed_passed (reach_after h ds) (next_reach (reach_after h ds) d1) P (grows (reach_after h ds) d1 (low z)) ∙ ap (λ k. passed k P) (sym (after_snoc h d1 ds));
  begins = λ z. w.begins (still z) ∙ ap (λ k. next_reach k d1) (v.begins z) ∙ sym (after_snoc h d1 ds);
}
  where
    low : settled h P ≡ true → reach_after h ds ≤ TERM
    low z = let b = bound_le s d in let e = v.begins z in omega arith

    still : settled h P ≡ true → settled (bound s d) Q ≡ true
    still z = ap (λ x. settled x Q) (v.begins z) ∙ ap (settled (reach_after h ds)) (v.list z) ∙ settled_passed (reach_after h ds) P (low z)

-- the ids are those of the list, once it is known to be settled
pub through_trail : (h d d1 s s1 i : ℕ) (ps : List Pair) (P Q R : List Meaning) → (settled h P ≡ true → d1 ≡ first_id (drop (suc i) ps)) → ReadsThrough h (trail i ps) d s P Q → Reads (bound s d) d1 s1 Q R → ReadsThrough h (trail (suc i) ps) d1 s1 P R
through_trail h d d1 s s1 i ps P Q R q v w =
    let t = through_more h d d1 s s1 (trail i ps) P Q R v w in
    record {
      list = λ z. t.list z ∙ ap (λ x. passed (reach_after h x) P) (ids z);
      begins = λ z. t.begins z ∙ ap (reach_after h) (ids z);
    }
  where
    ids : settled h P ≡ true → trail i ps ++ (d1 ∷ []) ≡ trail (suc i) ps
    ids z = ap (λ x. trail i ps ++ (x ∷ [])) (q z) ∙ sym (trail_snoc i ps)
