-- Lemmas on texts: numbers digit by digit, parts, fields and names.
use Rattle.std.proofs.Common.{◌≡◌, ℕ, suc, ◌+◌, ◌-◌, ◌*◌, ◌<◌, ◌≤◌, Bool, true, false, cond, ◌&&◌, eqb, ltb, List, [], ◌∷◌, ◌++◌, length, get_or, take, drop, not, unwrap_or, Some, None, IfSome, Bor, Option, sym, refl, ap, ◌∙◌, subst, ⊎_elim, append_assoc, append-nil, arith}
use Rattle.std.specs.Option.{option_copied}
use Rattle.std.proofs.lemmas.List.Sums.{passes_at_first}
use Rattle.std.specs.List.{position, position_or_len}
use Rattle.std.proofs.lemmas.List.{take_all, drop_more, drop_all}
use Rattle.std.proofs.lemmas.Bool.{le-ltb, cond-true, cond-false, cases_Bool, cases_eq, and_cases, and_right, eq-eqb, ne_eqb, ltb-true, ltb-false, false≢true}
use Rattle.card.specs.Text.{digit, all_digits, value_after, pushed, before, after, closed, fields, fields_after, lines, lines_after, all_name}

pub some_none : {X : Type 0} (x : X) → ◌≡◌ {A = Option X} (Some x) None → ⊥
some_none x e = let z : ◌≡◌ {A = ℕ} 0 1 = cc in omega arith

-- ---- numbers

-- the number that the text writes after the digits of n
abbrev pub read_on : ℕ → List ℕ → Option ℕ
read_on n bs = cond (all_digits bs && ltb (value_after n bs) 4294967296) (Some (value_after n bs)) None

grows : (n : ℕ) (bs : List ℕ) → n ≤ value_after n bs
grows n [] = omega arith
grows n (c ∷ cs) = omega (arith, grows (n * 10 + (c - 48)) cs)

pub digit_more : (n c : ℕ) (cs : List ℕ) → digit c ≡ true → read_on n (c ∷ cs) ≡ read_on (n * 10 + (c - 48)) cs
digit_more n c cs h =
    ap
    (λ (b : Bool).
    cond ((b && all_digits cs) && ltb (value_after (n * 10 + (c - 48)) cs) 4294967296)
    (Some (value_after (n * 10 + (c - 48)) cs))
    None)
    h

digit_stop : (n c : ℕ) (cs : List ℕ) → digit c ≡ false → read_on n (c ∷ cs) ≡ None
digit_stop n c cs h =
    ap
    (λ (b : Bool).
    cond ((b && all_digits cs) && ltb (value_after (n * 10 + (c - 48)) cs) 4294967296)
    (Some (value_after (n * 10 + (c - 48)) cs))
    None)
    h

-- what is too large stays too large
large_stop : (n : ℕ) (bs : List ℕ) → 4294967296 ≤ n → read_on n bs ≡ None
large_stop n bs h =
    cond-false (all_digits bs && ltb (value_after n bs) 4294967296) (Some (value_after n bs)) None
    (and_right (all_digits bs) (ltb (value_after n bs) 4294967296) (le-ltb (value_after n bs) 4294967296 (omega (arith, grows n bs))))

pub number_stop : (n c : ℕ) (cs : List ℕ) → None ≡ pushed n c → read_on n (c ∷ cs) ≡ None
number_stop n c cs e =
    let v : ℕ = n * 10 + (c - 48) in
    let t : Bool = digit c && ltb v 4294967296 in
    ⊎_elim {C = read_on n (c ∷ cs) ≡ None}
    (λ h. absurd (some_none v (sym (e ∙ cond-true t (Some v) None h))))
    (λ h.
    ⊎_elim {C = read_on n (c ∷ cs) ≡ None}
    (λ k. digit_stop n c cs k)
    (λ k.
    ⊎_elim {C = read_on n (c ∷ cs) ≡ None}
    (λ j. digit_more n c cs j ∙ large_stop v cs (ltb-false v 4294967296 k))
    (λ j. digit_stop n c cs j)
    (cases_Bool (digit c)))
    (and_cases (digit c) (ltb v 4294967296) h))
    (cases_Bool t)

-- ---- parts

pub before_later : (c x : ℕ) (xs : List ℕ) → (x ≡ c → ⊥) → before c (x ∷ xs) ≡ x ∷ before c xs
before_later c x xs h = cond-false (eqb x c) [] (x ∷ before c xs) (ne_eqb x c h)

after_here : (c x : ℕ) (xs : List ℕ) → x ≡ c → after c (x ∷ xs) ≡ Some xs
after_here c x xs h = cond-true (eqb x c) (Some xs) (after c xs) (eq-eqb x c h)

pub after_later : (c x : ℕ) (xs : List ℕ) → (x ≡ c → ⊥) → after c (x ∷ xs) ≡ after c xs
after_later c x xs h = cond-false (eqb x c) (Some xs) (after c xs) (ne_eqb x c h)

pub before_short : (c : ℕ) (bs : List ℕ) → length (before c bs) ≤ length bs
before_short c [] = omega arith
before_short c (x ∷ xs) =
    elim (eqb x c) as (λ (b : Bool). length (cond b [] (x ∷ before c xs)) ≤ suc (length xs)) [
      | true ↦ omega arith
      | false ↦ omega (arith, before_short c xs)
    ]

-- the place of the first c, or of none
abbrev pub place : ℕ → List ℕ → ℕ
place c bs = position_or_len (λ x. eqb x c) bs

-- both parts by that place
take_place : (c : ℕ) (bs : List ℕ) → take (place c bs) bs ≡ before c bs
take_place c [] = refl
take_place c (x ∷ xs) =
    elim (eqb x c) as
    (λ (b : Bool). take (cond (not b) (1 + place c xs) 0) (x ∷ xs) ≡ cond b [] (x ∷ before c xs)) [
      | true ↦ refl
      | false ↦
          let on : 1 + place c xs ≡ suc (place c xs) = omega arith in
          ap (λ (k : ℕ). take k (x ∷ xs)) on ∙ ap (λ (l : List ℕ). x ∷ l) (take_place c xs)
    ]

drop_place : (c : ℕ) (bs : List ℕ) → place c bs < length bs → Some (drop (place c bs + 1) bs) ≡ after c bs
drop_place c [] h = absurd (omega arith)
drop_place c (x ∷ xs) h =
    elim (eqb x c) as
    (λ (b : Bool).
    cond (not b) (1 + place c xs) 0 < suc (length xs) →
    Some (drop (cond (not b) (1 + place c xs) 0 + 1) (x ∷ xs)) ≡ cond b (Some xs) (after c xs)) [
      | true ↦ λ k. refl
      | false ↦ λ k.
          let on : 1 + place c xs + 1 ≡ suc (place c xs + 1) = omega arith in
          ap (λ (i : ℕ). Some (drop i (x ∷ xs))) on ∙ drop_place c xs (omega (arith, k))
    ]
    h

none_place : (c : ℕ) (bs : List ℕ) → length bs ≤ place c bs → None ≡ after c bs
none_place c [] h = refl
none_place c (x ∷ xs) h =
    elim (eqb x c) as
    (λ (b : Bool). suc (length xs) ≤ cond (not b) (1 + place c xs) 0 → None ≡ cond b (Some xs) (after c xs)) [
      | true ↦ λ k. absurd (omega (arith, k))
      | false ↦ λ k. none_place c xs (omega (arith, k))
    ]
    h

-- what `position` answers, by the two parts
abbrev pub Parted : ℕ → List ℕ → Option ℕ → Type 0
Parted c bs None = (bs ≡ before c bs) × (None ≡ after c bs)
Parted c bs (Some at) = (take at bs ≡ before c bs) × (Some (drop (at + 1) bs) ≡ after c bs) × (at < length bs)

parted : (c : ℕ) (bs : List ℕ) (b : Bool) → ltb (place c bs) (length bs) ≡ b → Parted c bs (cond b (Some (place c bs)) None)
parted c bs true h = (
  take_place c bs,
  drop_place c bs (ltb-true (place c bs) (length bs) h),
  ltb-true (place c bs) (length bs) h,
)
parted c bs false h = (
  sym (take_all (place c bs) bs (ltb-false (place c bs) (length bs) h)) ∙ take_place c bs,
  none_place c bs (ltb-false (place c bs) (length bs) h),
)

pub found_parts : (c : ℕ) (bs : List ℕ) (o : Option ℕ) → o ≡ position (λ x. eqb x c) bs → Parted c bs o
found_parts c bs o e = subst (Parted c bs) (sym e) (parted c bs (ltb (place c bs) (length bs)) refl)

-- ---- fields

abbrev pub later : Option (List ℕ) → List (List ℕ)
later None = []
later (Some rest) = fields rest

fields_split : (w bs : List ℕ) → fields_after w bs ≡ closed (w ++ before 32 bs) ++ later (after 32 bs)
fields_split w [] = sym (append-nil (closed (w ++ [])) ∙ ap closed (append-nil w))
fields_split w (c ∷ cs) =
    elim (eqb c 32) as
    (λ (b : Bool).
    cond b (closed w ++ fields_after [] cs) (fields_after (w ++ c ∷ []) cs) ≡
    closed (w ++ cond b [] (c ∷ before 32 cs)) ++ later (cond b (Some cs) (after 32 cs))) [
      | true ↦ ap (λ (l : List ℕ). closed l ++ fields cs) (sym (append-nil w))
      | false ↦
          fields_split (w ++ c ∷ []) cs ∙
          ap (λ (l : List ℕ). closed l ++ later (after 32 cs)) (append_assoc w (c ∷ []) (before 32 cs))
    ]

pub closed_some : (w : List ℕ) → 0 < length w → closed w ≡ w ∷ []
closed_some [] h = absurd (omega arith)
closed_some (c ∷ cs) h = refl

parts : (bs front : List ℕ) (back : Option (List ℕ)) → front ≡ before 32 bs → back ≡ after 32 bs → fields bs ≡ closed front ++ later back
parts bs front back e k =
    fields_split [] bs ∙ ap (λ (l : List ℕ). closed l ++ later (after 32 bs)) (sym e) ∙
    ap (λ (o : Option (List ℕ)). closed front ++ later o) (sym k)

-- the text up to the first space is a field
pub field_first :
    (bs front : List ℕ) (back : Option (List ℕ)) → front ≡ before 32 bs → back ≡ after 32 bs → 0 < length front →
    fields bs ≡ front ∷ later back
field_first bs front back e k h = parts bs front back e k ∙ ap (λ (l : List (List ℕ)). l ++ later back) (closed_some front h)

-- the place of the first byte that is no space, or of none
abbrev pub start : List ℕ → ℕ
start bs = position_or_len (λ x. not (eqb x 32)) bs

-- spaces in front are no part of a field
fields_start : (bs : List ℕ) → fields bs ≡ fields (drop (start bs) bs)
fields_start [] = refl
fields_start (x ∷ xs) =
    let at : Bool → List (List ℕ) = λ b. fields (drop (cond (not (not b)) (1 + start xs) 0) (x ∷ xs)) in
    let on : suc (start xs) ≡ 1 + start xs = omega arith in
    ⊎_elim {C = fields (x ∷ xs) ≡ fields (drop (start (x ∷ xs)) (x ∷ xs))}
    (λ h.
    cond-true (eqb x 32) (fields xs) (fields_after (x ∷ []) xs) h ∙ fields_start xs ∙
    ap (λ (k : ℕ). fields (drop k (x ∷ xs))) on ∙ sym (ap at h))
    (λ h. sym (ap at h))
    (cases_Bool (eqb x 32))

-- what `position` answers, by the fields
abbrev pub Started : List ℕ → Option ℕ → Type 0
Started bs None = fields bs ≡ []
Started bs (Some at) = (fields bs ≡ fields (drop at bs)) × (at < length bs) × (0 < length (before 32 (drop at bs)))

field_some : (x : ℕ) (xs : List ℕ) → not (eqb x 32) ≡ true → 0 < length (before 32 (x ∷ xs))
field_some x xs h =
    omega (arith, ap length (before_later 32 x xs (λ e. let t = eq-eqb x 32 e in absurd (false≢true (ap not (sym t) ∙ h)))))

started : (bs : List ℕ) (b : Bool) → ltb (start bs) (length bs) ≡ b → Started bs (cond b (Some (start bs)) None)
started bs true h =
    let less : start bs < length bs = ltb-true (start bs) (length bs) h in (
      fields_start bs,
      less,
      subst (λ (l : List ℕ). 0 < length (before 32 l)) (sym (drop_more bs (start bs) 0 less))
          (field_some (get_or bs (start bs) 0) (drop (start bs + 1) bs) (passes_at_first (λ x. not (eqb x 32)) bs 0 less)),
    )
started bs false h = fields_start bs ∙ ap fields (drop_all (start bs) bs (ltb-false (start bs) (length bs) h))

pub found_start : (bs : List ℕ) (o : Option ℕ) → o ≡ position (λ x. not (eqb x 32)) bs → Started bs o
found_start bs o e = subst (Started bs) (sym e) (started bs (ltb (start bs) (length bs)) refl)

-- the field that begins the text; rest is what stands behind it, or is empty
pub field_here :
    (bs front : List ℕ) (o : Option (Bor (List ℕ))) (d rest : Bor (List ℕ)) → front ≡ before 32 bs → option_copied o ≡ after 32 bs →
    IfSome o (λ x. length x.now < length bs) → 0 < length (before 32 bs) → rest ≡ unwrap_or o d → d.now ≡ [] →
    (fields bs ≡ front ∷ fields rest.now) × (length rest.now < length bs)
field_here bs front None d rest e k s h r n =
    let none : rest.now ≡ [] = ap (λ (x : Bor (List ℕ)). x.now) r ∙ n in (
      field_first bs front None e k (omega (arith, ap length e)) ∙ ap (λ (l : List ℕ). front ∷ fields l) (sym none),
      omega (arith, ap length none, before_short 32 bs),
    )
field_here bs front (Some x) d rest e k s h r n = (
  field_first bs front (Some x.now) e k (omega (arith, ap length e)) ∙ ap (λ (y : Bor (List ℕ)). front ∷ fields y.now) (sym r),
  omega (arith, ap (λ (y : Bor (List ℕ)). length y.now) r, s),
)

-- ---- lines

abbrev pub line_first : List ℕ → Option (List ℕ) → List (List ℕ)
line_first l None = closed l
line_first l (Some rest) = l ∷ lines rest

lines_split : (l bs : List ℕ) → lines_after l bs ≡ line_first (l ++ before 10 bs) (after 10 bs)
lines_split l [] = sym (ap closed (append-nil l))
lines_split l (c ∷ cs) =
    elim (eqb c 10) as
    (λ (b : Bool).
    cond b (l ∷ lines_after [] cs) (lines_after (l ++ c ∷ []) cs) ≡
    line_first (l ++ cond b [] (c ∷ before 10 cs)) (cond b (Some cs) (after 10 cs))) [
      | true ↦ ap (λ (k : List ℕ). k ∷ lines cs) (sym (append-nil l))
      | false ↦
          lines_split (l ++ c ∷ []) cs ∙
          ap (λ (k : List ℕ). line_first k (after 10 cs)) (append_assoc l (c ∷ []) (before 10 cs))
    ]

-- the text up to the first line feed is the first line
pub line_parts : (bs front : List ℕ) (back : Option (List ℕ)) → front ≡ before 10 bs → back ≡ after 10 bs → lines bs ≡ line_first front back
line_parts bs front back e k =
    lines_split [] bs ∙ ap (λ (l : List ℕ). line_first l (after 10 bs)) (sym e) ∙
    ap (λ (o : Option (List ℕ)). line_first front o) (sym k)

-- a text with no line feed is one line
pub whole_line : (c : ℕ) (bs : List ℕ) → None ≡ after c bs → before c bs ≡ bs
whole_line c [] e = refl
whole_line c (x ∷ xs) e =
    ⊎_elim {C = before c (x ∷ xs) ≡ x ∷ xs}
    (λ h. absurd (some_none xs (sym (e ∙ after_here c x xs h))))
    (λ h. before_later c x xs h ∙ ap (λ (l : List ℕ). x ∷ l) (whole_line c xs (e ∙ after_later c x xs h)))
    (cases_eq x c)

-- the line that begins the text, likewise
pub line_here :
    (bs front : List ℕ) (o : Option (Bor (List ℕ))) (d rest : Bor (List ℕ)) → front ≡ before 10 bs → option_copied o ≡ after 10 bs →
    IfSome o (λ x. length x.now < length bs) → 0 < length bs → rest ≡ unwrap_or o d → d.now ≡ [] →
    (lines bs ≡ front ∷ lines rest.now) × (length rest.now < length bs)
line_here bs front None d rest e k s h r n =
    let none : rest.now ≡ [] = ap (λ (x : Bor (List ℕ)). x.now) r ∙ n in
    let some : 0 < length front = omega (arith, ap length (e ∙ whole_line 10 bs k)) in (
      line_parts bs front None e k ∙ closed_some front some ∙ ap (λ (l : List ℕ). front ∷ lines l) (sym none),
      omega (arith, ap length none),
    )
line_here bs front (Some x) d rest e k s h r n = (
  line_parts bs front (Some x.now) e k ∙ ap (λ (y : Bor (List ℕ)). front ∷ lines y.now) (sym r),
  omega (arith, ap (λ (y : Bor (List ℕ)). length y.now) r, s),
)

-- ---- numbers of fields

-- numbers that stand before others
abbrev pub onto : List ℕ → Option (List ℕ) → Option (List ℕ)
onto xs None = None
onto xs (Some ys) = Some (xs ++ ys)

-- ---- names

abbrev pub name_on : List ℕ → List ℕ → Option (List ℕ)
name_on w bs = cond (all_name bs) (Some (w ++ bs)) None
