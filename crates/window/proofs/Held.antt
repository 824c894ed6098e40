-- What a window holds, slot by slot: after a score is taken, after a slot is taken out, after words are emptied; and how many slots hold something.
use Rattle.std.proofs.Common.{◌≡◌, ℕ, zero, suc, ◌+◌, ◌-◌, ◌*◌, ◌/◌, ◌%◌, ◌^◌, ◌<◌, ◌≤◌, ◌≢◌, ◌⊎◌, List, length, get_or, drop, set, replicate, sym, refl, ap, ◌∙◌, subst, inl, inr, ⊎_elim, pow-suc, add-one, arith, get_or-set_other, get_or-set_same}
use lib.Count.{ones, ones_step}
use lib.Ieee.{Float}
use lib.ListN.{get_or-replicate, length-replicate, drop_of_length-le}
use Rattle.std.proofs.lemmas.Nat.{shr-shr}
use Rattle.std.specs.List.{sum_by}
use Rattle.std.proofs.lemmas.List.{get_or_past}
use Rattle.std.proofs.lemmas.List.Sums.{sum_by-drop_more}
use Rattle.std.proofs.lemmas.Bool.{cases_eq, cases_lt, cases_Bool, cond-true, eqb-false}
use Rattle.docset.specs.Bits.{bit_set}
use Rattle.combiner.specs.declared.score_combiner.Tally.{Tally}
use Rattle.combiner.specs.Scores.{start}
use Rattle.combiner.specs.Cells.{Cell, none, some, put, count, slots}
use Rattle.combiner.proofs.Cells.{filled, count_step, count_none, count_split}
use Rattle.window.specs.Slots.{bit, slot, blank, Taken, AtRest, Outside}
use Rattle.window.specs.Windows.{held, Put, Next, Wiped}
use Rattle.window.proofs.Slots.{Behind, Inserted, slot_empty, after_emptied, behind_more}

-- ---- one slot

pub slot_none : (ws : List ℕ) (ts : List Tally) (d : ℕ) → slot ws d ≡ 0 → held ws ts d ≡ none
unfolding held
slot_none ws ts d z = rw z

pub none_slot : (ws : List ℕ) (ts : List Tally) (d : ℕ) → held ws ts d ≡ none → slot ws d ≡ 0
unfolding held
none_slot ws ts d h =
    ⊎_elim
    (λ e. absurd (let q = cond-true (bit_set ws d) (some (get_or ts d blank)) none e in let z : ◌≡◌ {A = ℕ} 0 1 = cc in omega arith))
    (λ e. let n = eqb-false (slot ws d) 1 e in omega (arith, n))
    (cases_Bool (bit_set ws d))

pub slot_some : (ws : List ℕ) (ts : List Tally) (d : ℕ) → slot ws d ≡ 1 → held ws ts d ≡ some (get_or ts d blank)
unfolding held
slot_some ws ts d o = rw o

either : (ws : List ℕ) (d : ℕ) → (slot ws d ≡ 0) ⊎ (slot ws d ≡ 1)
either ws d = ⊎_elim (λ q. inl q) (λ q. inr (omega (arith, q))) (cases_eq (slot ws d) 0)

-- equal bits and equal tallies, equal cells
pub held_same : (ws vs : List ℕ) (ts us : List Tally) (d : ℕ) → slot vs d ≡ slot ws d → get_or us d blank ≡ get_or ts d blank → held vs us d ≡ held ws ts d
unfolding held
held_same ws vs ts us d p q = rw (p, q)

-- ---- whole windows

-- a window holds nothing past its last slot
pub held_past : (ws : List ℕ) (ts : List Tally) (e : ℕ) → length ws ≡ 64 → 4096 ≤ e → held ws ts e ≡ none
held_past ws ts e n le = slot_none ws ts e (slot_empty ws e (get_or_past ws (e / 64) 0 (omega arith)))

-- nothing, where no slot of any word is set
pub held_none : (ws : List ℕ) (ts : List Tally) → length ws ≡ 64 → Behind ws 4096 → (e : ℕ) → held ws ts e ≡ none
held_none ws ts n h e = ⊎_elim (λ l. slot_none ws ts e (h e l)) (held_past ws ts e n) (cases_lt e 4096)

zeros : (n k : ℕ) → ◌≡◌ {A = ℕ} (get_or (replicate n 0) k 0) 0
zeros n k = ⊎_elim (λ l. get_or-replicate n k 0 0 l) (λ g. get_or_past (replicate n 0) k 0 (rw length-replicate g)) (cases_lt k n)

-- nothing in words of zeros
pub held_zeros : (ts : List Tally) (e : ℕ) → held (replicate 64 0) ts e ≡ none
held_zeros ts e = slot_none (replicate 64 0) ts e (slot_empty (replicate 64 0) e (zeros 64 (e / 64)))

-- ---- a score taken

put_here : (f : Tally → Float → Tally) (ws vs : List ℕ) (ts : List Tally) (d : ℕ) (x : Float) → d < length ts → d < 4096 → AtRest ws ts → slot vs d ≡ 1
    → held vs (set ts d (f (get_or ts d blank) x)) d ≡ put f (held ws ts d) x
put_here f ws vs ts d x lt l4 r o =
    slot_some vs (set ts d (f (get_or ts d blank) x)) d o ∙ ap some (get_or-set_same ts d (f (get_or ts d blank) x) blank lt) ∙
    sym (⊎_elim empty full (either ws d))
  where
    empty : slot ws d ≡ 0 → put f (held ws ts d) x ≡ some (f (get_or ts d blank) x)
    empty z = let h = slot_none ws ts d z in let s = r d l4 z in rw (h, s)

    full : slot ws d ≡ 1 → put f (held ws ts d) x ≡ some (f (get_or ts d blank) x)
    full z = let h = slot_some ws ts d z in rw h

-- the bit set and the score taken into the tally
pub put_cells : (f : Tally → Float → Tally) (ws vs : List ℕ) (ts us : List Tally) (d : ℕ) (x : Float) → d < length ts → d < 4096 → AtRest ws ts
    → Inserted ws d vs → us ≡ set ts d (f (get_or ts d blank) x) → Put f (held ws ts) (held vs us) d x
put_cells f ws vs ts us d x lt l4 r i e = record {
  here = ap (λ (y : List Tally). held vs y d) e ∙ put_here f ws vs ts d x lt l4 r i.here;
  others = λ k n.
      ap (λ (y : List Tally). held vs y k) e ∙
      held_same ws vs ts (set ts d (f (get_or ts d blank) x)) k (i.others k n) (let ne : k ≢ d = n in rw get_or-set_other refl);
}

-- ---- a slot taken out

-- the lowest of the first word that is not empty, its tally wiped
pub taken_cells : (ws vs : List ℕ) (ts us : List Tally) (b d : ℕ) (t : Tally) → b < 64 → Behind ws (b * 64) → Taken ws b d vs
    → t ≡ get_or ts d blank → us ≡ set ts d start → Next (held ws ts) (held vs us) d t
taken_cells ws vs ts us b d t lt h i q e = record {
  inside = let p = i.bucket in omega arith;
  was = slot_some ws ts d i.was ∙ ap some (sym q);
  below = λ k l. slot_none ws ts k (⊎_elim (h k) (λ c. i.below k c l) (cases_lt k (b * 64)));
  here = slot_none vs us d i.here;
  others = λ k n.
      ap (λ (y : List Tally). held vs y k) e ∙
      held_same ws vs ts (set ts d start) k (i.others k n) (let ne : k ≢ d = n in rw get_or-set_other refl);
}

-- ---- words emptied

-- nothing is left of what is behind
pub wiped_none : (ws : List ℕ) (ts : List Tally) (lo hi : ℕ) → lo ≤ hi → Behind ws hi → Wiped (held ws ts) (held ws ts) lo
wiped_none ws ts lo hi le h = record { below = λ e l. slot_none ws ts e (h e (omega arith)); others = λ e l. refl }

-- one word more
pub wiped_more : (a : ℕ → Cell) (ws : List ℕ) (ts us : List Tally) (b : ℕ) → Behind ws (b * 64) → Outside (b * 64) (b * 64 + 64) ts us
    → Wiped a (held ws ts) (b * 64) → Wiped a (held (set ws b 0) us) ((b + 1) * 64)
wiped_more a ws ts us b h o w = record {
  below = λ e l. slot_none (set ws b 0) us e (behind_more ws b h e l);
  others = λ e l. held_same ws (set ws b 0) ts us e (after_emptied ws b e l) (o.above e (omega arith)) ∙ w.others e (omega arith);
}

-- ---- how many slots hold something

filled_slot : (ws : List ℕ) (ts : List Tally) (d : ℕ) → filled (held ws ts d) ≡ slot ws d
filled_slot ws ts d = ⊎_elim (λ z. ap filled (slot_none ws ts d z) ∙ sym z) (λ z. ap filled (slot_some ws ts d z) ∙ sym z) (either ws d)

-- the slots of a word from bit j on: as many as are set in what is left of the word
count_from : (ws : List ℕ) (ts : List Tally) (b j n : ℕ) → j + n ≡ 64 → get_or ws b 0 / 2 ^ j < 2 ^ n
    → count (held ws ts) (b * 64 + j) n ≡ ones (get_or ws b 0 / 2 ^ j)
unfolding ones slots
count_from ws ts b j zero e lt = let z : get_or ws b 0 / 2 ^ j ≡ 0 = omega arith in rw z
count_from ws ts b j (suc n) e lt =
    let w = get_or ws b 0 in
    let p = count_step (held ws ts) (b * 64 + j) n in
    let q : (b * 64 + j) / 64 ≡ b = omega arith in
    let r : (b * 64 + j) % 64 ≡ j = omega arith in
    let f : filled (held ws ts (b * 64 + j)) ≡ bit w j = filled_slot ws ts (b * 64 + j) ∙ simp (q, r) in
    let h : w / 2 ^ j / 2 ≡ w / 2 ^ suc j = rw add-one at (shr-shr w j 1) in
    let s = ones_step (w / 2 ^ j) in
    let pw = pow-suc 2 n in
    let ih = count_from ws ts b (suc j) n (omega arith) (omega arith) in
    let hs = ap ones h in
    let at_next : suc (b * 64 + j) ≡ b * 64 + suc j = omega arith in
    let cn = ap (λ (x : ℕ). count (held ws ts) x n) at_next in
    p ∙ ap (λ (x : ℕ). x + count (held ws ts) (suc (b * 64 + j)) n) f ∙ ap (λ (x : ℕ). bit w j + x) (cn ∙ ih ∙ sym hs) ∙ sym s

-- the slots of a word
pub count_word : (ws : List ℕ) (ts : List Tally) (b : ℕ) → get_or ws b 0 < 2 ^ 64 → count (held ws ts) (b * 64) 64 ≡ ones (get_or ws b 0)
count_word ws ts b lt =
    let z : b * 64 + 0 ≡ b * 64 = omega arith in
    let o : get_or ws b 0 / 2 ^ 0 ≡ get_or ws b 0 = omega arith in
    let F : ℕ → Type 0 = λ x. count (held ws ts) x 64 ≡ ones (get_or ws b 0) in
    subst F z (count_from ws ts b 0 64 refl (omega arith) ∙ ap ones o)

-- none behind
pub count_behind : (ws : List ℕ) (ts : List Tally) (lo : ℕ) → Behind ws lo → count (held ws ts) 0 lo ≡ 0
count_behind ws ts lo h = count_none (held ws ts) 0 lo (λ d ge lt. slot_none ws ts d (h d (omega arith)))

-- the slots of the words from b on
pub count_words : (ws : List ℕ) (ts : List Tally) (b n : ℕ) → b + n ≡ length ws → ((k : ℕ) → get_or ws k 0 < 2 ^ 64)
    → count (held ws ts) (b * 64) (n * 64) ≡ sum_by ones (drop b ws)
unfolding slots
count_words ws ts b zero e h = let d = drop_of_length-le ws {i = b} (omega arith) in rw d
count_words ws ts b (suc n) e h =
    let p : suc n * 64 ≡ 64 + n * 64 = omega arith in
    let q : b * 64 + 64 ≡ (b + 1) * 64 = omega arith in
    let w = count_word ws ts b (h b) in
    let r = ap (λ (x : ℕ). count (held ws ts) x (n * 64)) q ∙ count_words ws ts (b + 1) n (omega arith) h in
    let s = sum_by-drop_more ones ws b 0 (omega arith) in
    ap (count (held ws ts) (b * 64)) p ∙ count_split (held ws ts) (b * 64) 64 (n * 64) ∙ omega arith

-- all of a window's slots, where none before word b is set
pub count_all : (ws : List ℕ) (ts : List Tally) (b : ℕ) → length ws ≡ 64 → b ≤ 64 → Behind ws (b * 64) → ((k : ℕ) → get_or ws k 0 < 2 ^ 64)
    → count (held ws ts) 0 4096 ≡ sum_by ones (drop b ws)
count_all ws ts b n le h f =
    let p : 4096 ≡ b * 64 + (64 - b) * 64 = omega arith in
    let z = count_behind ws ts (b * 64) h in
    let w = count_words ws ts b (64 - b) (omega arith) f in
    let o : 0 + b * 64 ≡ b * 64 = omega arith in
    ap (count (held ws ts) 0) p ∙ count_split (held ws ts) 0 (b * 64) ((64 - b) * 64) ∙
    ap (λ (x : ℕ). count (held ws ts) 0 (b * 64) + count (held ws ts) x ((64 - b) * 64)) o ∙ omega arith
