-- The heap in its array, as the list of the entries that it holds.
use Rattle.std.proofs.Common.{◌≡◌, ℕ, ◌+◌, ◌-◌, ◌<◌, ◌≤◌, Bool, cond, ltb, List, [], ◌∷◌, length, get_or, take, Some, None, sum_by, Option, MatchOption, true, false, sym, refl, ap, ◌∙◌, subst, ⊎_elim, arith}
use Rattle.std.specs.List.Sorted.{IsPermutation}
use Rattle.std.proofs.lemmas.List.{get_or-take, length-take-le}
use Rattle.std.proofs.lemmas.List.Sums.{sum_by-cons, get_or-le-sum_by}
use Rattle.std.proofs.lemmas.List.Sorted.{sum_by_popped, sum_by_pushed}
use Rattle.std.proofs.lemmas.Bool.{lt-ltb, ltb-true, cases_lt}
use Rattle.docset.specs.Meaning.{TERM}
use Rattle.heap.specs.declared.order.Entry.{Entry}
use Rattle.heap.specs.declared.heap.Top.TheVariants.{First}
use Rattle.heap.specs.Heaps.{Held, Topped, Pushed, Popped, Replaced}
use Rattle.heap.proofs.Shuffles.{held_some}
use Rattle.threshold.specs.Entries.{earlier, no_id, Heaped, Tops}

inside : (xs : List Entry) (n : ℕ) → Heaped xs n → n ≤ length xs
inside xs n h = let a = h.size in let b = h.few in omega arith

length_held : (xs : List Entry) (n : ℕ) → Heaped xs n → length (take n xs) ≡ n
length_held xs n h = length-take-le n xs (inside xs n h)

held : (xs : List Entry) (n : ℕ) → Heaped xs n → 0 < length (take n xs) → Held xs n
held xs n h lo = (let a = length_held xs n h in omega arith, inside xs n h)

no_id_none : (x : Entry) → x.id < TERM → no_id x ≡ 0
no_id_none x l = let t = lt-ltb x.id TERM l in rw t

has_id : (x : Entry) → no_id x ≤ 0 → x.id < TERM
has_id x l = go (ltb x.id TERM) refl l
  where
    go : (b : Bool) → ltb x.id TERM ≡ b → cond {A = ℕ} b 0 1 ≤ 0 → x.id < TERM
    go true e l = ltb-true x.id TERM e
    go false e l = absurd (omega arith)

-- ---- the top

pub topped : (xs : List Entry) (n : ℕ) (r : Option Entry) → Heaped xs n → Topped earlier xs n r → MatchOption r (take n xs ≡ []) (Tops (take n xs))
topped xs n None h t = ap (λ (k : ℕ). take k xs) (⊎_elim {C = n ≡ 0}
    (λ l. absurd (let e = t.some (l, inside xs n h) (record { id = 0; place = 0 }) in let z : ◌≡◌ {A = ℕ} 0 1 = cc in omega arith))
    (λ l. omega arith)
    (cases_lt 0 n))
topped xs n (Some e) h t =
    let l = length_held xs n h in
    let w = held_some earlier xs n e t in
    let at : (d : Entry) → get_or xs 0 d ≡ e = λ d. let s = t.some w d in cc in
    let first : (d : Entry) → get_or (take n xs) 0 d ≡ e = λ d. get_or-take n xs 0 d w.0 ∙ at d in
    let lo : 0 < length (take n xs) = let a = w.0 in omega arith in
    record {
      some = lo;
      few = let a = h.few in omega arith;
      first = first;
      an_id = has_id e (let a = get_or-le-sum_by no_id (take n xs) 0 e lo in let b = ap no_id (first e) in let c = h.ids in omega arith);
      leads = λ k q.
          let F : Entry → Entry → Type 0 = λ x y. earlier x y ≡ true in
          let i : k < n = omega arith in
          subst (F e) (sym (get_or-take n xs k e i)) (subst (λ x. F x (get_or xs k e)) (at e) (t.leading First h.heap k e i));
    }

-- ---- changes

pub pushed_heap : (xs ys : List Entry) (n : ℕ) (x : Entry) (b : Bool) → Heaped xs n → length (take n xs) < 32 → x.id < TERM → length ys ≡ length xs → Pushed earlier First x xs n ys b → Heaped ys (n + 1)
pushed_heap xs ys n x b h lt u l p =
    let w : n < length xs = let a = h.size in let k = length_held xs n h in omega arith in
    record {
      size = l ∙ h.size;
      few = let k = length_held xs n h in omega arith;
      heap = p.heaped w h.heap;
      ids = let a = sum_by_pushed no_id x (take n xs) (take (n + 1) ys) (p.same w) in let c = h.ids in let d = no_id_none x u in omega arith;
    }

pub popped_heap : (xs ys : List Entry) (n : ℕ) → Heaped xs n → 0 < length (take n xs) → length ys ≡ length xs → Popped earlier First xs n ys → Heaped ys (n - 1)
popped_heap xs ys n h lo l p =
    let w = held xs n h lo in
    let d : Entry = record { id = 0; place = 0 } in
    record {
      size = l ∙ h.size;
      few = let a = h.few in omega arith;
      heap = p.heaped w h.heap;
      ids = let a = sum_by_popped no_id (get_or xs 0 d) (take n xs) (take (n - 1) ys) (p.others w d) in let b = h.ids in omega arith;
    }

pub replaced_heap : (xs ys : List Entry) (n : ℕ) (x : Entry) → Heaped xs n → 0 < length (take n xs) → x.id < TERM → length ys ≡ length xs → Replaced earlier First x xs n ys → Heaped ys n
replaced_heap xs ys n x h lo u l p =
    let w = held xs n h lo in
    let d : Entry = record { id = 0; place = 0 } in
    record {
      size = l ∙ h.size;
      few = h.few;
      heap = p.heaped w h.heap;
      ids =
          let a = sum_by_popped no_id (get_or xs 0 d) (x ∷ take n xs) (take n ys) (p.same w d) in
          let b = sum_by-cons no_id x (take n xs) in
          let c = h.ids in
          let e = no_id_none x u in
          omega arith;
    }

-- a sum over the entries after x came in the stead of e
pub sum_replaced : (f : Entry → ℕ) (x e : Entry) (E F : List Entry) → IsPermutation (x ∷ E) (e ∷ F) → sum_by f F + f e ≡ sum_by f E + f x
sum_replaced f x e E F p = let a = sum_by_popped f e (x ∷ E) F p in let b = sum_by-cons f x E in omega arith
