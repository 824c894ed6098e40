-- Going through a set block by block.
use Rattle.std.proofs.Common.{◌≡◌, ℕ, zero, suc, ◌+◌, ◌*◌, ◌<◌, ◌≤◌, List, [], ◌∷◌, ◌++◌, length, take, drop, None, Ok, Option, Result, sym, refl, ap, ◌∙◌, append_assoc, append-nil, arith, length-drop, take-append-drop, length-take}
use Rattle.std.proofs.lemmas.List.{take_at, drop_all}
use Rattle.docset.specs.Meaning.{Meaning, Pair, TERM, Steady, calm, ids}
use Rattle.docset.specs.Calls.{Told, Filled}
use Rattle.docset.specs.declared.refusal.Refusal.{Refusal}
use Rattle.card.specs.declared.fault.CardFault.{CardFault}
use Rattle.leaves.specs.Lists.{ids_refusal, kept_ids, listed}
use Rattle.leaves.proofs.Leaves.{ids_ones}
use Rattle.placement.specs.Lessons.{leaf_read}
use Rattle.docset.proofs.Lists.{short, length_ids, steady_known}

-- after some blocks the ids read and those still listed are all ids, and what is listed is short enough
pub record Sofar (m n : Meaning) (xs : List ℕ) (turn : ℕ) : Type 0 where
  pub calm_still : Steady n
  pub all : xs ++ ids n.pairs ≡ ids m.pairs
  pub left : length n.pairs + 64 * turn ≤ TERM

pub starts : (m : Meaning) (r : ℕ) → Told m r → Steady m → Sofar m m [] 0
starts m r t s = record {
  calm_still = s;
  all = refl;
  left = omega (arith, short m.pairs (t.rises (steady_known m.mark s)));
}

drop_ids : (k : ℕ) (ps : List Pair) → ids (drop k ps) ≡ drop k (ids ps)
drop_ids zero ps = refl
drop_ids (suc k) [] = refl
drop_ids (suc k) (p ∷ ps) = drop_ids k ps

take_ids : (k : ℕ) (ps : List Pair) → length (take k (ids ps)) ≡ length (take k ps)
take_ids zero ps = refl
take_ids (suc k) [] = refl
take_ids (suc k) (p ∷ ps) = ap suc (take_ids k ps)

-- the front of the buffer holds the ids of the block
front : (m n : Meaning) (old new : List ℕ) (r : ℕ) → Filled m n old new r → Steady m → take r new ≡ take 64 (ids m.pairs)
front m n old new r f s =
    ap (take r) (f.writes s) ∙
    take_at (take 64 (ids m.pairs)) (drop r old) r (take_ids 64 m.pairs ∙ sym (f.tells s))

pub goes_on :
    (m n o : Meaning) (old new xs : List ℕ) (r turn : ℕ) → Sofar m n xs turn → Filled n o old new r → 64 ≤ r →
    Sofar m o (xs ++ take r new) (turn + 1)
goes_on m n o old new xs r turn h f k =
    let s = h.calm_still in
    let now : o ≡ calm (drop 64 n.pairs) = f.becomes s in
    let gone : ids o.pairs ≡ drop 64 (ids n.pairs) = ap (λ (z : Meaning). ids z.pairs) now ∙ drop_ids 64 n.pairs in
    record {
      calm_still = ap (λ (z : Meaning). z.mark) now;
      all =
          ap (λ (l : List ℕ). (xs ++ l) ++ ids o.pairs) (front n o old new r f s) ∙
          ap (λ (l : List ℕ). (xs ++ take 64 (ids n.pairs)) ++ l) gone ∙
          append_assoc xs (take 64 (ids n.pairs)) (drop 64 (ids n.pairs)) ∙
          ap (λ (l : List ℕ). xs ++ l) (take-append-drop 64 (ids n.pairs)) ∙
          h.all;
      left =
          omega
          (arith, h.left, ap (λ (z : Meaning). length z.pairs) now, length-drop 64 n.pairs, f.tells s, length-take 64 n.pairs);
    }

-- a short block is the last
pub ends_short :
    (m n o : Meaning) (old new xs : List ℕ) (r turn : ℕ) → Sofar m n xs turn → Filled n o old new r → r < 64 →
    xs ++ take r new ≡ ids m.pairs
ends_short m n o old new xs r turn h f k =
    let s = h.calm_still in
    let few : length n.pairs ≤ 64 = omega (arith, f.tells s, length-take 64 n.pairs) in
    let none : drop 64 (ids n.pairs) ≡ [] = drop_all 64 (ids n.pairs) (omega (arith, few, length_ids n.pairs)) in
    ap (λ (l : List ℕ). xs ++ l)
    (front n o old new r f s ∙ sym (append-nil (take 64 (ids n.pairs))) ∙
    ap (λ (l : List ℕ). take 64 (ids n.pairs) ++ l) (sym none) ∙ take-append-drop 64 (ids n.pairs)) ∙
    h.all

-- a set over ids that are not refused hands out these ids
pub leaf_whole :
    (n : ℕ) (xs ds vs : List ℕ) (place : ℕ) (o : Option Refusal) → o ≡ None → o ≡ ids_refusal xs → ds ≡ kept_ids o xs →
    place ≡ 0 → vs ≡ ids (listed ds place).pairs → leaf_read n (ids_refusal xs) xs ≡ Ok vs
leaf_whole n xs ds vs place o none told over fresh e =
    let same : ds ≡ xs = over ∙ ap (λ (q : Option Refusal). kept_ids q xs) none in
    let here : vs ≡ xs =
    e ∙ ap (λ (k : ℕ). ids (listed ds k).pairs) fresh ∙ ap (λ (l : List ℕ). ids (listed l 0).pairs) same ∙ ids_ones xs in
    ap (λ (q : Option Refusal). leaf_read n q xs) (sym told ∙ none) ∙
    ap {B = Result (List ℕ) CardFault} (λ (l : List ℕ). Ok l) (sym here)
