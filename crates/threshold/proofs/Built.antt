-- A threshold as it is built.
use Rattle.std.proofs.Common.{◌≡◌, ℕ, suc, ◌+◌, ◌<◌, ◌≤◌, List, [], length, sym, ap, ◌∙◌, subst, arith}
use lib.Ieee.{Float}
use Rattle.docset.specs.Meaning.{Meaning, TERM, Steady, Rising, calm, from}
use Rattle.combiner.specs.declared.score_combiner.Tally.{Tally}
use Rattle.bank.specs.Places.{at}
use Rattle.heap.specs.declared.order.Entry.{Entry}
use Rattle.live.specs.Sets.{empty, passed, AllSteady}
use Rattle.live.specs.Lists.{threshold_list}
use Rattle.live.proofs.Keeps.{steady_at, steady_all, rising_all, at_outside, idle_steady}
use Rattle.live.proofs.Passed.{at_passed_sets}
use Rattle.live.proofs.Thresholds.{threshold_alike}
use Rattle.threshold.specs.Entries.{weight, Ready}
use Rattle.threshold.specs.State.{means, Comes}
use Rattle.threshold.proofs.Sums.{each_zero}
use Rattle.threshold.proofs.Groups.{Loading, loaded}
use Rattle.threshold.proofs.States.{ready_fit, is_calm, ended, few_none, comes_calm}

-- ---- a refused one

pub idle_ready : (P : List Meaning) → ((k : ℕ) → at P k ≡ empty) → Ready P []
idle_ready P h = record {
  steady = idle_steady P h;
  rises = rising_all P (λ k l. let U : Meaning → Type 0 = λ m. Rising 0 m.pairs in subst U (sym (h k)) tt);
  counts = λ f. sym (each_zero f 0 P (λ i l. ap (weight f (0 + i)) (h i)));
}

-- no document, and nothing listed
pub waiting_calm : (least : ℕ) (step : Tally → Float → Tally) (tell : Tally → Float) (x : Float) (P : List Meaning) (E : List Entry) (room : ℕ) → Ready P E → means least step tell TERM x E P room ≡ calm []
waiting_calm least step tell x P E room y =
    is_calm least step tell TERM x E P room (ready_fit TERM P E y (λ l. absurd (omega arith))) ∙ ap calm (ended least step tell TERM x P (omega arith))

-- ---- one over the sets P, of which K are kept

-- all entries of K
pub all_loaded : (P K : List Meaning) (E : List Entry) (n i : ℕ) → ((k : ℕ) → at K k ≡ at P k) → AllSteady P → length P ≤ n → n ≤ i → Loading K E i → Ready K E
all_loaded P K E n i e s le l v = loaded K E i v (steady_all K (λ k q. subst Steady (sym (e k)) (steady_at P k s))) (λ k q. e k ∙ at_outside P k (omega arith))

pub built_waiting :
    (least : ℕ) (step : Tally → Float → Tally) (tell : Tally → Float) (x : Float) (P K : List Meaning) (E : List Entry) (room : ℕ) →
    ((k : ℕ) → at K k ≡ at P k) → Ready K E → length E < least → means least step tell TERM x E K room ≡ calm (threshold_list least step tell P)
built_waiting least step tell x P K E room a y l =
    waiting_calm least step tell x K E room y ∙ ap calm (sym (few_none least step tell K E y l) ∙ threshold_alike least step tell K P a)

pub built_standing :
    (least : ℕ) (step : Tally → Float → Tally) (tell : Tally → Float) (P K Q : List Meaning) (E F : List Entry) (r : ℕ) (x : Float) (room : ℕ) →
    ((k : ℕ) → at K k ≡ at P k) → Ready K E → Comes least step tell K Q E F r x → means least step tell r x F Q room ≡ calm (threshold_list least step tell P)
built_standing least step tell P K Q E F r x room a y c =
    comes_calm least step tell K Q E F r x room c y ∙ ap calm (threshold_alike least step tell K P a)

pub built_reads :
    (least : ℕ) (step : Tally → Float → Tally) (tell : Tally → Float) (P K Q : List Meaning) (E F : List Entry) (r : ℕ) (x : Float) →
    ((k : ℕ) → at K k ≡ at P k) → Ready K E → Comes least step tell K Q E F r x → (k : ℕ) → at Q k ≡ at (passed (suc r) P) k
built_reads least step tell P K Q E F r x a y c k =
    ap (λ X. at X k) (c.reads y) ∙ at_passed_sets (suc r) K k ∙ ap (λ m. calm (from (suc r) m.pairs)) (a k) ∙ sym (at_passed_sets (suc r) P k)
