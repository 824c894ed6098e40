use Rattle.bank.specs.Places.{Rows}
use Rattle.live.specs.Views.{awaited}
-- One turn of a block: the current document is written, then what is drained of the window, and the union goes on.
use Rattle.std.proofs.Common.{◌≡◌, ℕ, suc, ◌+◌, ◌<◌, ◌≤◌, true, List, length, drop, sym, ap, ◌∙◌, subst, arith}
use Rattle.std.proofs.lemmas.List.{drop-drop}
use lib.Ieee.{Float}
use Rattle.docset.specs.Meaning.{Meaning, TERM, Steady, first_id}
use Rattle.docset.proofs.Lists.{length_ids}
use Rattle.docset.proofs.Walking.{Filling}
use Rattle.combiner.specs.declared.score_combiner.Tally.{Tally}
use Rattle.combiner.specs.Cells.{slots}
use Rattle.window.specs.declared.window.Window.{Window}
use Rattle.window.specs.Windows.{cells, Wiped, shifted}
use Rattle.refill.specs.State.{bound, settled, Reads, ReadsThrough, trail}
use Rattle.refill.proofs.Reaches.{through_trail}
use Rattle.refill.proofs.Drains.{Skims, skims, skims_shorter, through_within}
use Rattle.union.specs.declared.buffered_union.BufferedUnionScorer.{BufferedUnionScorer}
use Rattle.union.specs.Reading.{left_of}
use Rattle.union.proofs.Ghosts.{meant, meant_with, none_before, none_past}

-- the slots below `reach` are taken out, and v is left of the window
pub drained : {B C : Type 0} (rows : B → Rows) (take : C → Tally → Float → Tally) (tell : C → Tally → Float) (u : BufferedUnionScorer B C) (v : Window) (reach : ℕ)
    → u.doc < TERM → reach ≤ 4096 → Wiped (cells u.window) (cells v) reach → Steady (meant rows take tell u)
    → Skims (meant rows take tell u) (meant_with rows take tell u v) (shifted u.start (slots (cells u.window) 0 reach)) (bound u.start u.doc)
drained rows take tell u v reach lt le w =
    skims (take u.combiner) (tell u.combiner) u.start u.doc reach u.score (cells u.window) (cells v) (left_of rows u) (awaited rows u.sets)
    u.begun lt (u.span lt) le (none_before u) (none_past u) w

pub drained_shorter : {B C : Type 0} (rows : B → Rows) (take : C → Tally → Float → Tally) (tell : C → Tally → Float) (u : BufferedUnionScorer B C) (v : Window) (reach : ℕ)
    → u.doc < TERM → reach ≤ 4096 → Wiped (cells u.window) (cells v) reach
    → length (meant_with rows take tell u v).pairs ≤ length (meant rows take tell u).pairs
drained_shorter rows take tell u v reach lt le w =
    skims_shorter (take u.combiner) (tell u.combiner) u.start u.doc reach u.score (cells u.window) (cells v) (left_of rows u) (awaited rows u.sets)
    (λ s. (shifted u.start (slots (cells u.window) 0 reach), (bound u.start u.doc, drained rows take tell u v reach lt le w s))) w

-- how far the sets are read: i ids were written of the list m before the turn, and r = i + 1 + k after it
pub through_turn : (h i k r c d s d1 d2 s1 : ℕ) (m l n o : Meaning) (xs old new new2 : List ℕ) (P Q R : List Meaning)
    → (settled h P ≡ true → Steady m) → Filling m l old new i c → (Steady l → Skims l n xs (bound s d)) → length xs ≡ k → r ≡ suc (i + k)
    → Filling m o old new2 r d2 → d1 ≡ d2 → ReadsThrough h (trail i m.pairs) d s P Q → Reads (bound s d) d1 s1 Q R
    → ReadsThrough h (trail r m.pairs) d1 s1 P R
through_turn h i k r c d s d1 d2 s1 m l n o xs old new new2 P Q R steady v skim len e w stands t reads =
    subst (λ (x : ℕ). ReadsThrough h (trail x m.pairs) d1 s1 P R) (sym e)
    (through_trail h d d1 s s1 (i + k) m.pairs P Q R
    (λ z. let q = steady z in stands ∙ w.along.tells q ∙ ap first_id (w.drops q) ∙ ap (λ x. first_id (drop x m.pairs)) e)
    (through_within h d s i k m.pairs P Q low t) reads)
  where
    low : settled h P ≡ true → (j : ℕ) → j < k → first_id (drop (suc (i + j)) m.pairs) < bound s d
    low z j lj =
        let q = steady z in
        let a = skim (v.along.still q) in
        let n = ap length a.written in
        let o = length_ids a.front in
        let p : suc (i + j) ≡ i + suc j = omega arith in
        subst (λ (x : ℕ). x < bound s d)
        (sym (ap (λ x. first_id (drop x m.pairs)) p ∙ ap first_id (sym (drop-drop (suc j) i m.pairs)) ∙ ap (λ x. first_id (drop (suc j) x)) (sym (v.drops q) ∙ a.list)))
        (a.low j (omega arith))
