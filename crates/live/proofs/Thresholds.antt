-- The list of a threshold: its first document, its order, and how long it is at most.
use Rattle.std.proofs.Common.{◌≡◌, ℕ, zero, suc, ◌+◌, ◌-◌, ◌<◌, ◌≤◌, Bool, true, false, cond, ltb, ◌⊎◌, List, [], ◌∷◌, ◌++◌, length, set, sym, refl, ap, ◌∙◌, subst, inl, inr, ⊎_elim, arith, eq-eqb, ne_eqb}
use lib.Ieee.{Float}
use Rattle.docset.specs.Meaning.{Meaning, Pair, TERM, Rising, calm, rest, first_id, first_score}
use Rattle.combiner.specs.declared.score_combiner.Tally.{Tally}
use Rattle.combiner.specs.Cells.{Cell, none, puts, slots, count, entry, listed}
use Rattle.combiner.proofs.Cells.{filled, count_step, count_none, count_more, listed_same, listed_skip, listed_none, listed_rises, length_listed}
use Rattle.bank.specs.Places.{at}
use Rattle.live.specs.Sets.{passed, lowest_of, AllRising}
use Rattle.live.specs.Kept.{kept, due}
use Rattle.live.specs.Lists.{scores_in, scores_at, united, sifted, threshold_list}
use Rattle.live.proofs.Scores.{scores_first, at_low, at_passed, at_gone, scores_alike}

-- ---- the scores of the lowest id

scores_here : (d : ℕ) (ps : List Pair) → first_id ps ≡ d → d < TERM → scores_in d ps ≡ first_score ps ∷ scores_in d (rest ps)
scores_here d [] e lt = absurd (omega arith)
scores_here d (p ∷ ps) e lt = let t = eq-eqb p.id d e in rw t

-- the first set that lists the lowest id gives its first score
pub scores_step :
    (d : ℕ) (ms : List Meaning) (k : ℕ) → AllRising ms → d < TERM → first_id (at ms k).pairs ≡ d → ((j : ℕ) → j < k → d < first_id (at ms j).pairs) →
    scores_at d ms ≡ first_score (at ms k).pairs ∷ scores_at d (set ms k (calm (rest (at ms k).pairs)))
scores_step d [] k r lt e h = absurd (omega arith)
scores_step d (m ∷ ms) zero r lt e h = let a = scores_here d m.pairs e lt in rw a
scores_step d (m ∷ ms) (suc k) r lt e h =
    let a = scores_first d m.pairs r.0 (h 0 (omega arith)) in
    let b = scores_step d ms k r.1 lt e (λ j l. h (suc j) (omega arith)) in
    rw a b

-- ---- the list

sift : ℕ → (Tally → Float → Tally) → List Float → Cell
sift least f xs = cond (ltb (length xs) least) none (puts f none xs)

sift_none : (least : ℕ) (f : Tally → Float → Tally) → sift least f [] ≡ none
unfolding sift
sift_none least f = go (ltb 0 least)
  where
    go : (b : Bool) → cond {A = Cell} b none none ≡ none
    go true = refl
    go false = refl

pub sifted_none : (least : ℕ) (f : Tally → Float → Tally) (ms : List Meaning) (d : ℕ) → scores_at d ms ≡ [] → sifted least f ms d ≡ none
unfolding sift
sifted_none least f ms d e = ap (sift least f) e ∙ sift_none least f

sifted_same : (least : ℕ) (f : Tally → Float → Tally) (X Y : List Meaning) (d : ℕ) → scores_at d X ≡ scores_at d Y → sifted least f X d ≡ sifted least f Y d
unfolding sift
sifted_same least f X Y d e = ap (sift least f) e

listed_entry : (tell : Tally → Float) (a : ℕ → Cell) (lo n : ℕ) → listed tell a lo (suc n) ≡ entry tell lo (a lo) (listed tell a (suc lo) n)
unfolding listed
listed_entry tell a lo n = refl

module _ (least : ℕ) (f : Tally → Float → Tally) (tell : Tally → Float) where
  -- below the lowest id nothing is listed
  pub threshold_low : (ms : List Meaning) (h : ℕ) → AllRising ms → h ≤ lowest_of ms → h ≤ TERM → threshold_list least f tell ms ≡ listed tell (sifted least f ms) h (TERM - h)
  unfolding threshold_list
  threshold_low ms h r low le =
      let p : TERM ≡ h + (TERM - h) = omega arith in
      let q : 0 + h ≡ h = omega arith in
      ap (listed tell (sifted least f ms) 0) p ∙ listed_skip tell (sifted least f ms) 0 h (TERM - h) (λ d g l. sifted_none least f ms d (at_low d ms r (omega arith)))
      ∙ ap (λ x. listed tell (sifted least f ms) x (TERM - h)) q

  -- what is listed from h on is the threshold of what the sets have from there on
  pub threshold_past : (ms : List Meaning) (h : ℕ) → AllRising ms → h ≤ TERM → listed tell (sifted least f ms) h (TERM - h) ≡ threshold_list least f tell (passed h ms)
  unfolding threshold_list
  threshold_past ms h r le =
      let p : TERM ≡ h + (TERM - h) = omega arith in
      let q : 0 + h ≡ h = omega arith in
      listed_same tell (sifted least f ms) (sifted least f (passed h ms)) h (TERM - h) (λ d g l. sifted_same least f ms (passed h ms) d (sym (at_passed h d ms g)))
      ∙ ap (λ x. listed tell (sifted least f (passed h ms)) x (TERM - h)) (sym q)
      ∙ sym (listed_skip tell (sifted least f (passed h ms)) 0 h (TERM - h) (λ d g l. sifted_none least f (passed h ms) d (at_gone h d ms r (omega arith))))
      ∙ ap (listed tell (sifted least f (passed h ms)) 0) (sym p)

  -- the lowest id, if it is listed, and the rest
  pub threshold_step : (ms : List Meaning) → AllRising ms → lowest_of ms < TERM
      → threshold_list least f tell ms ≡ entry tell (lowest_of ms) (sifted least f ms (lowest_of ms)) (threshold_list least f tell (passed (suc (lowest_of ms)) ms))
  threshold_step ms r lt =
      let low : ℕ = lowest_of ms in
      let p : TERM - low ≡ suc (TERM - suc low) = omega arith in
      threshold_low ms low r (omega arith) (omega arith)
      ∙ ap (listed tell (sifted least f ms) low) p ∙ listed_entry tell (sifted least f ms) low (TERM - suc low)
      ∙ ap (entry tell low (sifted least f ms low)) (threshold_past ms (suc low) r (omega arith))

  -- fewer scores than are asked for
  pub threshold_none : (ms : List Meaning) → ((d : ℕ) → d < TERM → sifted least f ms d ≡ none) → threshold_list least f tell ms ≡ []
  unfolding threshold_list
  threshold_none ms h = listed_none tell (sifted least f ms) 0 TERM (λ d g l. h d (omega arith))

  pub threshold_rises : (ms : List Meaning) (h : ℕ) → AllRising ms → h ≤ lowest_of ms → h ≤ TERM → Rising h (threshold_list least f tell ms)
  threshold_rises ms h r low le =
      let F : List Pair → Type 0 = λ ps. Rising h ps in
      subst F (sym (threshold_low ms h r low le)) (listed_rises tell (sifted least f ms) h (TERM - h) (omega arith))

  -- banks alike place by place
  pub threshold_alike : (X Y : List Meaning) → ((k : ℕ) → at X k ≡ at Y k) → threshold_list least f tell X ≡ threshold_list least f tell Y
  unfolding threshold_list
  threshold_alike X Y h = listed_same tell (sifted least f X) (sifted least f Y) 0 TERM (λ d g l. sifted_same least f X Y d (scores_alike d X Y h))

-- ---- how long it is

abbrev pub total : List Meaning → ℕ
total [] = 0
total (m ∷ ms) = length m.pairs + total ms

-- the ids of a list, each once, are no more than its pairs
count_list :
    (f : Tally → Float → Tally) (ps : List Pair) (ys : ℕ → List Float) (lo n : ℕ) →
    count (λ d. puts f none (scores_in d ps ++ ys d)) lo n ≤ length ps + count (λ d. puts f none (ys d)) lo n
count_list f [] ys lo n = omega arith
count_list f (p ∷ ps) ys lo n =
    let ih = count_list f ps ys lo n in
    let m = count_more (λ d. puts f none (scores_in d ps ++ ys d)) (λ d. puts f none (scores_in d (p ∷ ps) ++ ys d)) p.id lo n (λ e ne. let t = ne_eqb p.id e (λ q. ne (sym q)) in rw t) in
    omega arith

pub count_united : (f : Tally → Float → Tally) (ms : List Meaning) (lo n : ℕ) → count (united f ms) lo n ≤ total ms
count_united f [] lo n = let z = count_none (united f []) lo n (λ d g l. refl) in omega arith
count_united f (m ∷ ms) lo n = let a = count_list f m.pairs (λ d. scores_at d ms) lo n in let b = count_united f ms lo n in omega arith

pub total_kept : (bs : List Bool) (ms : List Meaning) → total (kept bs ms) ≤ due bs ms
total_kept [] ms = omega arith
total_kept (true ∷ bs) [] = let h = total_kept bs [] in omega arith
total_kept (false ∷ bs) [] = let h = total_kept bs [] in omega arith
total_kept (true ∷ bs) (m ∷ ms) = let h = total_kept bs ms in omega arith
total_kept (false ∷ bs) (m ∷ ms) = let h = total_kept bs ms in omega arith

-- fewer cells, fewer ids
pub count_fewer : (a b : ℕ → Cell) (lo n : ℕ) → ((d : ℕ) → (b d ≡ none) ⊎ (b d ≡ a d)) → count b lo n ≤ count a lo n
unfolding slots
count_fewer a b lo zero h = omega arith
count_fewer a b lo (suc n) h =
    let ih = count_fewer a b (suc lo) n h in
    let p = count_step a lo n in
    let q = count_step b lo n in
    ⊎_elim (λ e. let x = ap filled e in omega arith) (λ e. let x = ap filled e in omega arith) (h lo)

either : (b : Bool) (c : Cell) → (cond b none c ≡ none) ⊎ (cond b none c ≡ c)
either true c = inl refl
either false c = inr refl

pub threshold_short : (least : ℕ) (f : Tally → Float → Tally) (tell : Tally → Float) (ms : List Meaning) → length (threshold_list least f tell ms) ≤ total ms
unfolding threshold_list
threshold_short least f tell ms =
    let a = length_listed tell (sifted least f ms) 0 TERM in
    let b = count_fewer (united f ms) (sifted least f ms) 0 TERM (λ d. either (ltb (length (scores_at d ms)) least) (united f ms d)) in
    let c = count_united f ms 0 TERM in
    omega arith
