-- Slots taken out one after the other into a buffer.
use Rattle.std.proofs.Common.{◌≡◌, ℕ, suc, ◌+◌, ◌-◌, ◌<◌, ◌≤◌, List, [], ◌∷◌, ◌++◌, length, get_or, take, drop, set, sym, refl, ap, ◌∙◌, subst, ⊎_elim, append_assoc, arith, length-append}
use lib.ListN.{length-map}
use Rattle.std.proofs.lemmas.List.{set_at, drop_more, length-take-le, map_push, take-append-drop}
use Rattle.std.proofs.lemmas.Bool.{cases_eq, cases_lt}
use Rattle.combiner.specs.declared.score_combiner.Tally.{Tally}
use Rattle.combiner.specs.Cells.{Cell, none, some, slots, count}
use Rattle.combiner.proofs.Cells.{slots_split, slots_skip, slots_one, count_split, count_none}
use Rattle.window.specs.Windows.{Next, Ended, Wiped, Drained, shifted}

-- what stands after some turns: the slots below `reach` are out, and their ids stand in the buffer
pub record Draining (a b : ℕ → Cell) (start filled : ℕ) (old new : List ℕ) (place : ℕ) : Type 0 where
  pub reach : ℕ
  pub inside : reach ≤ 4096
  pub room : place ≤ 64
  pub wiped : Wiped a b reach
  pub answer : place ≡ filled + count a 0 reach
  pub buffer : new ≡ take filled old ++ (shifted start (slots a 0 reach) ++ drop place old)

pub draining_none : (a : ℕ → Cell) (start filled : ℕ) (old : List ℕ) → filled ≤ 64 → Draining a a start filled old old filled
unfolding slots
draining_none a start filled old le = record {
  reach = 0;
  inside = omega arith;
  room = le;
  wiped = record { below = λ e l. absurd (omega arith); others = λ e l. refl };
  answer = omega arith;
  buffer = sym (take-append-drop filled old);
}

-- the slots up to the next one: one more
slots_next : (a b c : ℕ → Cell) (d k : ℕ) (t : Tally) → Wiped a b d → Next b c k t → d ≤ k → slots a 0 (suc k) ≡ slots a 0 d ++ (k ∷ [])
unfolding slots
slots_next a b c d k t w n le =
    let p : suc k ≡ d + ((k - d) + 1) = omega arith in
    let q : 0 + d ≡ d = omega arith in
    let r : d + (k - d) ≡ k = omega arith in
    let e : slots a d ((k - d) + 1) ≡ k ∷ [] =
    slots_skip a d (k - d) 1 (λ e ge l. sym (w.others e ge) ∙ n.below e (omega arith)) ∙
    ap (λ (x : ℕ). slots a x 1) r ∙ slots_one a k 0 t (sym (w.others k le) ∙ n.was) in
    ap (slots a 0) p ∙ slots_split a 0 d ((k - d) + 1) ∙
    ap (λ (x : ℕ). slots a 0 d ++ slots a x ((k - d) + 1)) q ∙ ap (λ (xs : List ℕ). slots a 0 d ++ xs) e

-- one id more is written at the first place that is free
push : (front mid old : List ℕ) (place x : ℕ) → length front + length mid ≡ place → place < length old
    → set (front ++ (mid ++ drop place old)) place x ≡ front ++ ((mid ++ (x ∷ [])) ++ drop (place + 1) old)
push front mid old place x n lt =
    let e = drop_more old place 0 lt in
    let m : length (front ++ mid) ≡ place = length-append front mid ∙ n in
    ap (λ (ys : List ℕ). set (front ++ (mid ++ ys)) place x) e ∙
    ap (λ (ys : List ℕ). set ys place x) (sym (append_assoc front mid (get_or old place 0 ∷ drop (place + 1) old))) ∙
    set_at (front ++ mid) (get_or old place 0) (drop (place + 1) old) x place m ∙
    append_assoc front mid (x ∷ drop (place + 1) old) ∙
    ap (λ (ys : List ℕ). front ++ ys) (sym (append_assoc mid (x ∷ []) (drop (place + 1) old)))

-- a turn
pub draining_more : (a b c : ℕ → Cell) (start filled : ℕ) (old new : List ℕ) (place k : ℕ) (t : Tally) → length old ≡ 64 → filled ≤ 64 → place < 64
    → Next b c k t → Draining a b start filled old new place → Draining a c start filled old (set new place (start + k)) (place + 1)
draining_more a b c start filled old new place k t len fl lt n g = record {
  reach = suc k;
  inside = let i = n.inside in omega arith;
  room = omega arith;
  wiped = record { below = emptied; others = λ e l. n.others e (λ q. omega arith) ∙ g.wiped.others e (let h = ahead in omega arith) };
  answer = let p = g.answer in let m = one in omega arith;
  buffer =
      ap (λ (ys : List ℕ). set ys place (start + k)) g.buffer ∙
      push (take filled old) (shifted start (slots a 0 g.reach)) old place (start + k) filled_so_far (omega arith) ∙
      ap (λ (ys : List ℕ). take filled old ++ (ys ++ drop (place + 1) old)) (sym mid);
}
  where
    -- the next slot is not among those that are out
    ahead : g.reach ≤ k
    ahead = ⊎_elim (λ l. absurd (let z : none ≡ some t = sym (g.wiped.below k l) ∙ n.was in let y : ◌≡◌ {A = ℕ} 0 1 = cc in omega arith)) (λ h. h) (cases_lt k g.reach)

    emptied : (e : ℕ) → e < suc k → c e ≡ none
    emptied e l = ⊎_elim (λ q. ap c q ∙ n.here) (λ q. n.others e q ∙ n.below e (omega (arith, q))) (cases_eq e k)

    more : slots a 0 (suc k) ≡ slots a 0 g.reach ++ (k ∷ [])
    more = slots_next a b c g.reach k t g.wiped n ahead

    one : count a 0 (suc k) ≡ count a 0 g.reach + 1
    one = ap length more ∙ length-append (slots a 0 g.reach) (k ∷ [])

    mid : shifted start (slots a 0 (suc k)) ≡ shifted start (slots a 0 g.reach) ++ ((start + k) ∷ [])
    mid = ap (shifted start) more ∙ map_push (λ (d : ℕ). start + d) (slots a 0 g.reach) k

    filled_so_far : length (take filled old) + length (shifted start (slots a 0 g.reach)) ≡ place
    filled_so_far =
        let x = length-take-le filled old (omega arith) in
        let y = length-map (slots a 0 g.reach) (λ (d : ℕ). start + d) in
        let z = g.answer in
        omega arith

-- the slots out, and those still in
count_parts : (a : ℕ → Cell) (d : ℕ) → d ≤ 4096 → count a 0 4096 ≡ count a 0 d + count a d (4096 - d)
count_parts a d le =
    let p : 4096 ≡ d + (4096 - d) = omega arith in
    let q : 0 + d ≡ d = omega arith in
    ap (count a 0) p ∙ count_split a 0 d (4096 - d) ∙ ap (λ (x : ℕ). count a 0 d + count a x (4096 - d)) q

-- the buffer is full
pub drained_full : (a b : ℕ → Cell) (start filled : ℕ) (old new : List ℕ) (place : ℕ) → 64 ≤ place
    → Draining a b start filled old new place → Drained a b start filled old new 64
drained_full a b start filled old new place ge h =
    let r = h.room in
    let e : place ≡ 64 = omega arith in
    let F : ℕ → Type 0 = Draining a b start filled old new in
    let g = subst F e h in
    record {
      reach = g.reach;
      inside = g.inside;
      wiped = g.wiped;
      answer = g.answer;
      full = let p = g.answer in let q = count_parts a g.reach g.inside in omega arith;
      buffer = g.buffer;
    }

-- the window is empty
pub drained_ended : (a b c : ℕ → Cell) (start filled : ℕ) (old new : List ℕ) (place : ℕ) → Ended b c
    → Draining a b start filled old new place → Drained a c start filled old new place
drained_ended a b c start filled old new place n g = record {
  reach = g.reach;
  inside = g.inside;
  wiped = record { below = λ e l. n.same e ∙ g.wiped.below e l; others = λ e l. n.same e ∙ g.wiped.others e l };
  answer = g.answer;
  full =
      let p = g.answer in
      let q = count_parts a g.reach g.inside in
      let z = count_none a g.reach (4096 - g.reach) (λ d ge l. sym (g.wiped.others d ge) ∙ n.all d) in
      let r = g.room in
      omega arith;
  buffer = g.buffer;
}
