-- A row of sets of one type, whose meanings are told by f, hints by h and costs by p.
use Rattle.std.proofs.Common.{◌≡◌, ℕ, ◌<◌, List, [], ◌++◌, map, length, get_or, take, drop, set, sym, ap, ◌∙◌, subst, arith}
use Rattle.std.proofs.Math.Seq.{take-append_seam}
use Rattle.std.proofs.lemmas.List.{length-map, get_or-map, set_past, set-set, set-get_or, get_or-set_same, map-set}
use Rattle.docset.specs.Meaning.{Meaning, calm}
use Rattle.bank.specs.Places.{rows_of, at, Elsewhere}

-- what a vector holds once its slice has come back as xs
pub whole : {X : Type 0} (xs items : List X) (n : ℕ) → length xs ≡ n → take n (xs ++ drop (length xs) items) ≡ xs
whole xs items n e = rw (← e) (take-append_seam xs _)

-- what was written at i can be read there again
set_read : {Y : Type 0} (ys : List Y) (i : ℕ) (y d : Y) → set ys i y ≡ set ys i (get_or (set ys i y) i d)
set_read ys i y d = sym (set-get_or (set ys i y) i d) ∙ set-set ys i y (get_or (set ys i y) i d)

map_read :
    {X Y : Type 0} (f : X → Y) (vs : List X) (i : ℕ) (y : X) (d : Y) →
    map f (set vs i y) ≡ set (map f vs) i (get_or (map f (set vs i y)) i d)
map_read f vs i y d =
    subst (λ (l : List _). l ≡ set (map f vs) i (get_or l i d)) (sym (map-set f vs i y)) (set_read (map f vs) i (f y) d)

-- one call at place i, where y comes to stand, leaves the others
pub elsewhere :
    {X : Type 0} (f : X → Meaning) (h p : X → ℕ) (vs : List X) (i : ℕ) (y : X) →
    Elsewhere i (rows_of f h p vs) (rows_of f h p (set vs i y))
elsewhere f h p vs i y =
    record {
      lists = map_read f vs i y (calm []);
      guesses = map_read h vs i y 0;
      costs = map_read p vs i y 0;
      outside = λ l. ap (rows_of f h p) (set_past vs i y (omega (arith, length-map vs f)));
    }

-- and what it did to the set x there it did at the place
pub moved_at :
    {X : Type 0} (f : X → Meaning) (R : Meaning → Meaning → Type 0) (vs : List X) (i : ℕ) (x y : X) → i < length vs →
    x ≡ get_or vs i x → R (f x) (f y) → R (at (map f vs) i) (at (map f (set vs i y)) i)
moved_at f R vs i x y l s r =
    let a : at (map f (set vs i y)) i ≡ f y =
    ap (λ (m : List Meaning). at m i) (map-set f vs i y) ∙
    get_or-set_same (map f vs) i (f y) (calm []) (omega (arith, length-map vs f)) in
    let b : at (map f vs) i ≡ f x = get_or-map f vs i x (calm []) l ∙ ap f (sym s) in
    subst (λ (m : Meaning). R m (at (map f (set vs i y)) i)) (sym b) (subst (R (f x)) (sym a) r)
