-- Seeks of a union, within its window and past it.
use Rattle.std.proofs.Common.{◌≡◌, ℕ, zero, suc, ◌+◌, ◌-◌, ◌<◌, ◌≤◌, true, false, ◌⊎◌, List, [], ◌∷◌, length, sym, refl, ap, ◌∙◌, subst, inl, inr, ⊎_elim, arith, lt-ltb}
use Rattle.docset.proofs.Lists.{from_shorter}
use Rattle.docset.proofs.Walking.{seek_starts, seek_ends}
use Rattle.refill.proofs.Lengths.{count_zero}
use lib.Ieee.{Float}
use Rattle.combiner.specs.declared.score_combiner.Tally.{Tally}
use Rattle.combiner.specs.Cells.{Cell, none, puts, listed, count}
use Rattle.window.specs.Windows.{Wiped}
use Rattle.std.proofs.lemmas.Bool.{cases_lt, cases_Bool}
use Rattle.docset.specs.Meaning.{Meaning, Pair, TERM, Steady, Rising, calm, from, first_id}
use Rattle.docset.specs.Calls.{Told, Sought}
use Rattle.live.specs.Sets.{passed, AllSteady, AllRising}
use Rattle.live.specs.Lists.{united, union_list}
use Rattle.combiner.proofs.Cells.{count_step, filled, listed_same, listed_none, listed_from, length_listed}
use Rattle.refill.specs.Refills.{reach}
use Rattle.refill.specs.State.{settled, bound, ahead, standing, union_meaning, Opened}
use Rattle.live.proofs.Scores.{at_passed, at_gone}
use Rattle.refill.proofs.States.{ahead_in, ahead_out, union_low, settled_is}
use Rattle.live.proofs.Passed.{passed_steady, passed_rising, lowest_passed}
use Rattle.refill.proofs.Moves.{is_calm, is_settled, stands, lost_length, standing_rises}

pub sought_stay : (t d : ℕ) (m : Meaning) → (t ≤ d) ⊎ (d ≡ TERM) → Told m d → Sought t m m d
sought_stay t d m e u = seek_ends t m m d (seek_starts t m d u) e

-- what is left of a standing union at a later id
pub from_standing : (tell : Tally → Float) (c : ℕ → Cell) (doc t : ℕ) (x : Float) → doc < t → t ≤ TERM → from t (standing tell c doc x) ≡ listed tell c t (TERM - t)
from_standing tell c doc t x lt le =
    let p : TERM - suc doc ≡ (t - suc doc) + (TERM - t) = omega arith in
    let q : suc doc + (t - suc doc) ≡ t = omega arith in
    let h = lt-ltb doc t lt in
    let F : ℕ → Type 0 = λ k. from k (listed tell c (suc doc) ((t - suc doc) + (TERM - t))) ≡ listed tell c k (TERM - t) in
    ap (from t) (stands tell c doc x (omega arith)) ∙ rw h (ap (λ n. from t (listed tell c (suc doc) n)) p ∙ subst F q (listed_from tell c (suc doc) (t - suc doc) (TERM - t) (omega arith)))

-- fewer cells, fewer ids
pub count_fewer : (a b : ℕ → Cell) (lo n : ℕ) → ((d : ℕ) → lo ≤ d → (b d ≡ none) ⊎ (b d ≡ a d)) → count b lo n ≤ count a lo n
count_fewer a b lo zero h = let x = count_zero a lo in let y = count_zero b lo in omega arith
count_fewer a b lo (suc n) h =
    let ih = count_fewer a b (suc lo) n (λ d g. h d (omega arith)) in
    let x = count_step a lo n in
    let y = count_step b lo n in
    ⊎_elim (λ e. let z = ap filled e in omega arith) (λ e. let z = ap filled e in omega arith) (h lo (omega arith))

-- the part of a window before the target is emptied
pub skipped : (f : Tally → Float → Tally) (tell : Tally → Float) (s doc t w : ℕ) (x : Float) (a b : ℕ → Cell) (ms : List Meaning) (cr : ℕ) (n : Meaning) (r : ℕ)
    → s ≤ doc → doc < t → t < reach s → s + w ≤ t → Wiped a b w
    → Sought t (union_meaning f tell s doc x b ms cr) n r → Sought t (union_meaning f tell s doc x a ms cr) n r
skipped f tell s doc t w x a b ms cr n r sd lt tr wt v o = record {
  an_id = o.an_id;
  shrinks = let h = ⊎_elim shorter (λ q. shorter_lost q) (cases_Bool (settled (bound s doc) ms)) in let k = o.shrinks in omega arith;
  becomes = λ st. let e = is_settled f tell s doc x a ms cr st in o.becomes (mark e) ∙ ap calm (list e);
  tells = λ st. let e = is_settled f tell s doc x a ms cr st in o.tells (mark e) ∙ ap first_id (list e);
}
  where
    mark : settled (bound s doc) ms ≡ true → Steady (union_meaning f tell s doc x b ms cr)
    mark e = ap (λ m. m.mark) (is_calm f tell s doc x b ms cr e)

    same : (d : ℕ) → t ≤ d → (d < reach s) ⊎ (reach s ≤ d) → ahead f s b ms d ≡ ahead f s a ms d
    same d g (inl l) = ahead_in f s b ms d l ∙ v.others (d - s) (omega arith) ∙ sym (ahead_in f s a ms d l)
    same d g (inr l) = ahead_out f s b ms d l ∙ sym (ahead_out f s a ms d l)

    list : settled (bound s doc) ms ≡ true → from t (union_meaning f tell s doc x b ms cr).pairs ≡ from t (union_meaning f tell s doc x a ms cr).pairs
    list e =
        ap (λ m. from t m.pairs) (is_calm f tell s doc x b ms cr e)
        ∙ from_standing tell (ahead f s b ms) doc t x lt (omega arith)
        ∙ listed_same tell (ahead f s b ms) (ahead f s a ms) t (TERM - t) (λ d g l. same d g (cases_lt d (reach s)))
        ∙ sym (from_standing tell (ahead f s a ms) doc t x lt (omega arith))
        ∙ ap (λ m. from t m.pairs) (sym (is_calm f tell s doc x a ms cr e))

    cell : (e : ℕ) → (b e ≡ none) ⊎ (b e ≡ a e)
    cell e = ⊎_elim (λ l. inl (v.below e l)) (λ l. inr (v.others e l)) (cases_lt e w)

    fewer : (d : ℕ) → (ahead f s b ms d ≡ none) ⊎ (ahead f s b ms d ≡ ahead f s a ms d)
    fewer d = ⊎_elim
        (λ l. ⊎_elim (λ z. inl (ahead_in f s b ms d l ∙ z)) (λ z. inr (ahead_in f s b ms d l ∙ z ∙ sym (ahead_in f s a ms d l))) (cell (d - s)))
        (λ l. inr (ahead_out f s b ms d l ∙ sym (ahead_out f s a ms d l)))
        (cases_lt d (reach s))

    shorter : settled (bound s doc) ms ≡ true → length (union_meaning f tell s doc x b ms cr).pairs ≤ length (union_meaning f tell s doc x a ms cr).pairs
    shorter e =
        let la = ap (λ m. length m.pairs) (is_calm f tell s doc x a ms cr e) in
        let lb = ap (λ m. length m.pairs) (is_calm f tell s doc x b ms cr e) in
        let ka = ap length (stands tell (ahead f s a ms) doc x (omega arith)) in
        let kb = ap length (stands tell (ahead f s b ms) doc x (omega arith)) in
        let ja = length_listed tell (ahead f s a ms) (suc doc) (TERM - suc doc) in
        let jb = length_listed tell (ahead f s b ms) (suc doc) (TERM - suc doc) in
        let h = count_fewer (ahead f s a ms) (ahead f s b ms) (suc doc) (TERM - suc doc) (λ d g. fewer d) in
        omega arith

    shorter_lost : settled (bound s doc) ms ≡ false → length (union_meaning f tell s doc x b ms cr).pairs ≤ length (union_meaning f tell s doc x a ms cr).pairs
    shorter_lost e =
        let la = lost_length f tell s doc x a ms cr e in
        let lb = lost_length f tell s doc x b ms cr e in
        let h = count_fewer a b 0 4096 (λ d g. cell d) in
        omega arith

pub from_none : (t lo : ℕ) (ps : List Pair) → TERM ≤ t → Rising lo ps → from t ps ≡ []
from_none t lo [] le r = refl
from_none t lo (p ∷ ps) le r = let h = lt-ltb p.id t (omega arith) in rw h (from_none t (suc p.id) ps le r.2)

none_left : (f : Tally → Float → Tally) (tell : Tally → Float) (t : ℕ) (ms : List Meaning) → AllRising ms → TERM ≤ t → union_list f tell (passed t ms) ≡ []
unfolding union_list
none_left f tell t ms r le = listed_none tell (united f (passed t ms)) 0 TERM (λ d g l. ap (puts f none) (at_gone t d ms r (omega arith)))

far_list : (f : Tally → Float → Tally) (tell : Tally → Float) (s doc t : ℕ) (x : Float) (a : ℕ → Cell) (ms : List Meaning) → AllRising ms → doc < t → reach s ≤ t → from t (standing tell (ahead f s a ms) doc x) ≡ union_list f tell (passed t ms)
far_list f tell s doc t x a ms r lt le = ⊎_elim near (λ g. from_none t 0 (standing tell (ahead f s a ms) doc x) g (standing_rises tell (ahead f s a ms) doc x) ∙ sym (none_left f tell t ms r g)) (cases_lt t TERM)
  where
    near : t < TERM → from t (standing tell (ahead f s a ms) doc x) ≡ union_list f tell (passed t ms)
    near h =
        from_standing tell (ahead f s a ms) doc t x lt (omega arith)
        ∙ listed_same tell (ahead f s a ms) (united f (passed t ms)) t (TERM - t) (λ d g l. ahead_out f s a ms d (omega arith) ∙ ap (puts f none) (sym (at_passed t d ms g)))
        ∙ sym (union_low f tell (passed t ms) t (passed_rising t ms r) (lowest_passed t ms (omega arith)))

-- a target past the window: the sets are sought, and a window opened over them
pub sought_far : (f : Tally → Float → Tally) (tell : Tally → Float) (s doc t : ℕ) (x : Float) (a : ℕ → Cell) (P Q : List Meaning) (cr cr1 : ℕ) (n : Meaning) (r : ℕ)
    → doc < TERM → doc < t → reach s ≤ t → (AllSteady P → AllRising P) → (AllSteady P → Q ≡ passed t P) → cr1 ≤ cr → Opened f tell Q cr1 n r
    → Sought t (union_meaning f tell s doc x a P cr) n r
sought_far f tell s doc t x a P Q cr cr1 n r dt lt le rises q pays o = record {
  an_id = o.an_id;
  shrinks = ⊎_elim shorter (λ e. let l = lost_length f tell s doc x a P cr e in let h = o.small in omega arith) (cases_Bool (settled (bound s doc) P));
  becomes = λ st. becomes (is_settled f tell s doc x a P cr st);
  tells = λ st. let e = becomes (is_settled f tell s doc x a P cr st) in o.tells (ap (λ m. m.mark) e) ∙ ap (λ m. first_id m.pairs) e;
}
  where
    becomes : settled (bound s doc) P ≡ true → n ≡ calm (from t (union_meaning f tell s doc x a P cr).pairs)
    becomes e =
        let z = (settled_is (bound s doc) P e).0 in
        let F : List Meaning → Type 0 = λ X. AllSteady X in
        o.becomes (subst F (sym (q z)) (passed_steady t P)) ∙ ap (λ X. calm (union_list f tell X)) (q z)
        ∙ ap calm (sym (far_list f tell s doc t x a P (rises z) lt le)) ∙ ap (λ m. calm (from t m.pairs)) (sym (is_calm f tell s doc x a P cr e))

    shorter : settled (bound s doc) P ≡ true → length n.pairs ≤ length (union_meaning f tell s doc x a P cr).pairs
    shorter e = let l = ap (λ m. length m.pairs) (becomes e) in let h = from_shorter t (union_meaning f tell s doc x a P cr).pairs in omega arith
