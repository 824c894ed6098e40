-- What a union lists that stands somewhere in its window.
use Rattle.std.proofs.Common.{◌≡◌, ℕ, suc, ◌+◌, ◌-◌, ◌<◌, ◌≤◌, true, leb, ◌⊎◌, List, [], ◌∷◌, sym, refl, ap, ◌∙◌, inl, inr, arith, le-ltb, lt-ltb, le-leb, leb-true}
use lib.Ieee.{Float}
use Rattle.combiner.specs.declared.score_combiner.Tally.{Tally}
use Rattle.combiner.specs.Cells.{Cell, none, some, puts, listed}
use Rattle.window.specs.Windows.{Next}
use Rattle.std.proofs.lemmas.Bool.{cases_lt, and_parts, and_from}
use Rattle.docset.specs.Meaning.{Meaning, TERM}
use Rattle.live.specs.Sets.{passed, lowest_of, AllSteady, AllRising, all_steady}
use Rattle.live.proofs.Keeps.{lowest_le}
use Rattle.live.proofs.Passed.{test_steady, steady_test, lowest_passed}
use Rattle.live.specs.Lists.{scores_at, united, union_list}
use Rattle.combiner.proofs.Cells.{listed_same, listed_skip, listed_head}
use Rattle.refill.specs.Refills.{AllSound, Refilled, reach}
use Rattle.refill.specs.State.{settled, bound, ahead}
use Rattle.live.proofs.Scores.{at_low, at_passed, low_some}

-- cells ahead
pub ahead_in : (f : Tally → Float → Tally) (s : ℕ) (a : ℕ → Cell) (ms : List Meaning) (d : ℕ) → d < reach s → ahead f s a ms d ≡ a (d - s)
unfolding ahead
ahead_in f s a ms d lt = let t = lt-ltb d (reach s) lt in rw t

pub ahead_out : (f : Tally → Float → Tally) (s : ℕ) (a : ℕ → Cell) (ms : List Meaning) (d : ℕ) → reach s ≤ d → ahead f s a ms d ≡ united f ms d
unfolding ahead
ahead_out f s a ms d le = let t = le-ltb d (reach s) le in rw t

-- taking the lowest from the window takes the head of the list
pub pop_list : (f : Tally → Float → Tally) (tell : Tally → Float) (s : ℕ) (a b : ℕ → Cell) (ms : List Meaning) (e : ℕ) (t : Tally) (lo : ℕ) → Next a b e t → s ≤ lo → lo ≤ s + e → s + e < reach s
    → listed tell (ahead f s a ms) lo (TERM - lo) ≡ record { id = s + e; score = tell t } ∷ listed tell (ahead f s b ms) (suc (s + e)) (TERM - suc (s + e))
pop_list f tell s a b ms e t lo n ge le lt =
    listed_head tell (ahead f s a ms) lo (s + e) TERM t le (omega arith)
    (λ d g l. ahead_in f s a ms d (omega arith) ∙ n.below (d - s) (omega arith))
    (ahead_in f s a ms (s + e) lt ∙ ap a (let q : (s + e) - s ≡ e = omega arith in q) ∙ n.was)
    ∙ ap (λ x. record { id = s + e; score = tell t } ∷ x) (listed_same tell (ahead f s a ms) (ahead f s b ms) (suc (s + e)) (TERM - suc (s + e)) (λ d g l. later d g (cases_lt d (reach s))))
  where
    later : (d : ℕ) → suc (s + e) ≤ d → (d < reach s) ⊎ (reach s ≤ d) → ahead f s a ms d ≡ ahead f s b ms d
    later d g (inl x) = ahead_in f s a ms d x ∙ sym (n.others (d - s) (λ q. omega arith)) ∙ sym (ahead_in f s b ms d x)
    later d g (inr x) = ahead_out f s a ms d x ∙ sym (ahead_out f s b ms d x)

united_low : (f : Tally → Float → Tally) (ms : List Meaning) (d : ℕ) → AllRising ms → d < lowest_of ms → united f ms d ≡ none
united_low f ms d r lt = ap (puts f none) (at_low d ms r lt)

-- nothing is listed before the lowest id
pub union_low : (f : Tally → Float → Tally) (tell : Tally → Float) (ms : List Meaning) (lo : ℕ) → AllRising ms → lo ≤ lowest_of ms → union_list f tell ms ≡ listed tell (united f ms) lo (TERM - lo)
unfolding union_list
union_low f tell ms lo r le =
    let h = lowest_le ms in
    let p : TERM ≡ lo + (TERM - lo) = omega arith in
    let q : 0 + lo ≡ lo = omega arith in
    ap (listed tell (united f ms) 0) p ∙ listed_skip tell (united f ms) 0 lo (TERM - lo) (λ d g l. united_low f ms d r (omega arith)) ∙ ap (λ x. listed tell (united f ms) x (TERM - lo)) q

-- with the window spent, what comes is the union of the sets
pub spent_list : (f : Tally → Float → Tally) (tell : Tally → Float) (s doc : ℕ) (a : ℕ → Cell) (ms : List Meaning) → AllRising ms → doc < reach s → reach s ≤ lowest_of ms → ((e : ℕ) → a e ≡ none)
    → listed tell (ahead f s a ms) (suc doc) (TERM - suc doc) ≡ union_list f tell ms
spent_list f tell s doc a ms r lt le z =
    sym (union_low f tell ms (suc doc) r (omega arith) ∙ listed_same tell (united f ms) (ahead f s a ms) (suc doc) (TERM - suc doc) (λ d g l. same d (cases_lt d (reach s))))
  where
    same : (d : ℕ) → (d < reach s) ⊎ (reach s ≤ d) → united f ms d ≡ ahead f s a ms d
    same d (inl x) = united_low f ms d r (omega arith) ∙ sym (z (d - s)) ∙ sym (ahead_in f s a ms d x)
    same d (inr x) = sym (ahead_out f s a ms d x)

-- a window filled from its lowest id on holds the lower part of the union
pub filled_list : (f : Tally → Float → Tally) (tell : Tally → Float) (ms ns : List Meaning) (a b : ℕ → Cell) (low : ℕ) → AllSound ms → low ≡ lowest_of ms → ((e : ℕ) → a e ≡ none) → Refilled f low (reach low) ms ns a b
    → union_list f tell ms ≡ listed tell (ahead f low b ns) low (TERM - low)
filled_list f tell ms ns a b low s q z v =
    union_low f tell ms low s.1 (omega arith) ∙ listed_same tell (united f ms) (ahead f low b ns) low (TERM - low) (λ d g l. same d g (cases_lt d (reach low)))
  where
    same : (d : ℕ) → low ≤ d → (d < reach low) ⊎ (reach low ≤ d) → united f ms d ≡ ahead f low b ns d
    same d g (inl x) =
        let e : low + (d - low) ≡ d = omega arith in
        sym (ahead_in f low b ns d x ∙ v.inside s (d - low) (omega arith) ∙ ap (λ k. puts f (a (d - low)) (scores_at k ms)) e ∙ ap (λ c. puts f c (scores_at d ms)) (z (d - low)))
    same d g (inr x) = sym (ahead_out f low b ns d x ∙ ap (λ X. united f X d) (v.becomes s) ∙ ap (puts f none) (at_passed (reach low) d ms x))

-- the first cell of such a window holds something
pub filled_some : (f : Tally → Float → Tally) (ms ns : List Meaning) (a b : ℕ → Cell) (low : ℕ) → AllSound ms → low ≡ lowest_of ms → low < TERM → ((e : ℕ) → a e ≡ none) → Refilled f low (reach low) ms ns a b
    → (t : Tally) × (b 0 ≡ some t)
filled_some f ms ns a b low s q lt z v =
    let e : low + 0 ≡ lowest_of ms = omega arith in
    let t = low_some f ms (omega arith) in
    (t.0, v.inside s 0 (omega arith) ∙ ap (λ c. puts f c (scores_at (low + 0) ms)) (z 0) ∙ ap (united f ms) e ∙ t.1)

-- settled
steady_passed : (h : ℕ) (ms : List Meaning) → all_steady (passed h ms) ≡ true
steady_passed h [] = refl
steady_passed h (m ∷ ms) = steady_passed h ms

pub settled_passed : (h : ℕ) (ms : List Meaning) → h ≤ TERM → settled h (passed h ms) ≡ true
unfolding settled
settled_passed h ms le = and_from _ _ (steady_passed h ms) (le-leb h (lowest_of (passed h ms)) (lowest_passed h ms le))

pub settled_is : (h : ℕ) (ms : List Meaning) → settled h ms ≡ true → AllSteady ms × (h ≤ lowest_of ms)
unfolding settled
settled_is h ms e =
    let p = and_parts (all_steady ms) (leb h (lowest_of ms)) e in (test_steady ms p.0, leb-true h (lowest_of ms) p.1)

pub settled_by : (h : ℕ) (ms : List Meaning) → AllSteady ms → h ≤ lowest_of ms → settled h ms ≡ true
unfolding settled
settled_by h ms z le = and_from _ _ (steady_test ms z) (le-leb h (lowest_of ms) le)

pub bound_on : (s doc : ℕ) → doc < TERM → bound s doc ≡ reach s
bound_on s doc lt = let t = lt-ltb doc TERM lt in rw t

pub bound_end : (s doc : ℕ) → TERM ≤ doc → bound s doc ≡ TERM
bound_end s doc le = let t = le-ltb doc TERM le in rw t
