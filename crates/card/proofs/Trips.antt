-- Numbers that are written in decimal are read back.
use Rattle.std.proofs.Common.{◌≡◌, ℕ, ◌<◌, true, ◌&&◌, ltb, leb, List, [], ◌∷◌, ◌++◌, length, Some, None, decimal, Option, sym, refl, ap, ◌∙◌, arith, rules}
use Rattle.std.proofs.lemmas.Fmt.{digits_decimal, digits_value-decimal, decimal_nonempty}
use Rattle.std.proofs.lemmas.Str.Parse.{IsNumeralModel, numerals_by_fold}
use Rattle.std.proofs.lemmas.Bool.{lt-ltb, cond-true, and_parts, and_from, leb-true}
use Rattle.card.specs.Text.{digit, all_digits, value_after, is_number, number, before, after, fields, numbers, put_first, ids_of, written, Fit}
use Rattle.card.proofs.Texts.{before_later, after_later, field_first}

own : IsNumeralModel (λ ds. all_digits ds ≡ true) (value_after 0)
own = numerals_by_fold (λ ds. all_digits ds ≡ true) (search rules) value_after (search rules)

number_decimal : (n : ℕ) → n < 4294967296 → number (decimal n) ≡ Some n
number_decimal n h =
    let v : value_after 0 (decimal n) ≡ n = digits_value-decimal own n (omega arith) in
    let some : ltb 0 (length (decimal n)) ≡ true = lt-ltb 0 (length (decimal n)) (decimal_nonempty n (omega arith)) in
    let small : ltb (value_after 0 (decimal n)) 4294967296 ≡ true = lt-ltb (value_after 0 (decimal n)) 4294967296 (omega (arith, v)) in
    cond-true (is_number (decimal n)) (Some (value_after 0 (decimal n))) None
    (and_from (ltb 0 (length (decimal n))) (all_digits (decimal n) && ltb (value_after 0 (decimal n)) 4294967296) some
    (and_from (all_digits (decimal n)) (ltb (value_after 0 (decimal n)) 4294967296) (digits_decimal own n (omega arith)) small)) ∙
    ap (λ (k : ℕ). Some k) v

no_space : (c : ℕ) → digit c ≡ true → c ≡ 32 → ⊥
no_space c h e = omega (arith, leb-true 48 c (and_parts (leb 48 c) (leb c 57) h).0, e)

-- digits go up to the space behind them
before_digits : (ds rest : List ℕ) → all_digits ds ≡ true → before 32 (ds ++ 32 ∷ rest) ≡ ds
before_digits [] rest h = refl
before_digits (c ∷ cs) rest h =
    let p = and_parts (digit c) (all_digits cs) h in
    before_later 32 c (cs ++ 32 ∷ rest) (no_space c p.0) ∙ ap (λ (l : List ℕ). c ∷ l) (before_digits cs rest p.1)

after_digits : (ds rest : List ℕ) → all_digits ds ≡ true → after 32 (ds ++ 32 ∷ rest) ≡ Some rest
after_digits [] rest h = refl
after_digits (c ∷ cs) rest h =
    let p = and_parts (digit c) (all_digits cs) h in
    after_later 32 c (cs ++ 32 ∷ rest) (no_space c p.0) ∙ after_digits cs rest p.1

before_all : (ds : List ℕ) → all_digits ds ≡ true → before 32 ds ≡ ds
before_all [] h = refl
before_all (c ∷ cs) h =
    let p = and_parts (digit c) (all_digits cs) h in
    before_later 32 c cs (no_space c p.0) ∙ ap (λ (l : List ℕ). c ∷ l) (before_all cs p.1)

after_none : (ds : List ℕ) → all_digits ds ≡ true → after 32 ds ≡ None
after_none [] h = refl
after_none (c ∷ cs) h =
    let p = and_parts (digit c) (all_digits cs) h in
    after_later 32 c cs (no_space c p.0) ∙ after_none cs p.1

first_number : (n : ℕ) (rest : List ℕ) → n < 4294967296 → fields (decimal n ++ 32 ∷ rest) ≡ decimal n ∷ fields rest
first_number n rest h =
    let ds : all_digits (decimal n) ≡ true = digits_decimal own n (omega arith) in
    field_first (decimal n ++ 32 ∷ rest) (decimal n) (Some rest) (sym (before_digits (decimal n) rest ds)) (sym (after_digits (decimal n) rest ds))
    (decimal_nonempty n (omega arith))

last_number : (n : ℕ) → n < 4294967296 → fields (decimal n) ≡ decimal n ∷ []
last_number n h =
    let ds : all_digits (decimal n) ≡ true = digits_decimal own n (omega arith) in
    field_first (decimal n) (decimal n) None (sym (before_all (decimal n) ds)) (sym (after_none (decimal n) ds)) (decimal_nonempty n (omega arith))

pub read_back : (ns : List ℕ) → Fit ns → ids_of (written ns) ≡ Some ns
read_back [] f = refl
read_back (n ∷ []) f =
    ap numbers (last_number n f.0) ∙ ap (λ (o : Option ℕ). put_first o (Some [])) (number_decimal n f.0)
read_back (n ∷ m ∷ ns) f =
    ap numbers (first_number n (written (m ∷ ns)) f.0) ∙
    ap (λ (o : Option ℕ). put_first o (ids_of (written (m ∷ ns)))) (number_decimal n f.0) ∙
    ap (λ (o : Option (List ℕ)). put_first (Some n) o) (read_back (m ∷ ns) f.1)
