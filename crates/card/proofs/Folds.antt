-- A number read digit by digit, up to the first byte that does not go on.
use Rattle.std.proofs.Common.{◌≡◌, ℕ, ◌+◌, ◌-◌, ◌*◌, ◌<◌, Bool, cond, ◌&&◌, ltb, List, [], ◌∷◌, length, unwrap_or, Some, None, Option, sym, refl, ap, ◌∙◌, subst, ⊎_elim, arith, MatchOption}
use denote.Param.Members.{Mut}
use Rattle.std.specs.Fn.{Called}
use Rattle.std.specs.Iterator.{Yields, YieldsThen, AlwaysYields}
use Rattle.std.proofs.lemmas.Iterator.{YieldsList}
use Rattle.std.specs.List.{FoldsTo}
use Rattle.std.proofs.lemmas.Bool.{cond-true, cond-false, cases_Bool, and_parts, ltb-true, lt-ltb}
use Rattle.card.specs.Text.{digit, all_digits, value_after, pushed, number}
use Rattle.card.proofs.Texts.{some_none, read_on, digit_more, number_stop}

number_whole : (bs : List ℕ) → 0 < length bs → number bs ≡ read_on 0 bs
number_whole bs h =
    ap (λ (b : Bool). cond (b && (all_digits bs && ltb (value_after 0 bs) 4294967296)) (Some (value_after 0 bs)) None)
    (lt-ltb 0 (length bs) h)

number_more : (n c : ℕ) (cs : List ℕ) (j : ℕ) → Some j ≡ pushed n c → (read_on n (c ∷ cs) ≡ read_on j cs) × (j < 4294967296)
number_more n c cs j e =
    let v : ℕ = n * 10 + (c - 48) in
    let t : Bool = digit c && ltb v 4294967296 in
    ⊎_elim {C = (read_on n (c ∷ cs) ≡ read_on j cs) × (j < 4294967296)}
    (λ h.
    let same : j ≡ v = ap (λ (o : Option ℕ). unwrap_or o 0) (e ∙ cond-true t (Some v) None h) in
    let p = and_parts (digit c) (ltb v 4294967296) h in
    (digit_more n c cs p.0 ∙ ap (λ (k : ℕ). read_on k cs) (sym same), omega (arith, same, ltb-true v 4294967296 p.1)))
    (λ h. absurd (some_none j (e ∙ cond-false t (Some v) None h)))
    (cases_Bool t)

module _ (S A F E : Type 0) (steps : S → Option A → S → Type 0) (v : A → ℕ) (g : Mut F (ℕ × (A × Unit {0})) (Option ℕ)) (f : F)
    (k : (a : ℕ) (x : A) (r : Option ℕ) (q : F) → Called g f (a, (x, tt)) r q → (q ≡ f) × (r ≡ pushed a (v x))) where
  abbrev Turn : F × ℕ → A → F × ℕ → Type 0
  Turn p x q = (r : Option ℕ) × Called g p.0 (p.1, (x, tt)) r q.0 × (r ≡ Some q.1)

  abbrev Ends : Option A → F × ℕ → Option ℕ → Type 0
  Ends o p r = MatchOption o (r ≡ Some p.1) (λ x. (b : Option ℕ) × (h : F) × (e : E) × Called g p.0 (p.1, (x, tt)) b h × (b ≡ None) × (r ≡ None))

  last :
      (bs : List ℕ) (s u : S) (o : Option A) (p : F × ℕ) (r : Option ℕ) → p.0 ≡ f → p.1 < 4294967296 → AlwaysYields steps v s bs →
      steps s o u → Ends o p r → r ≡ read_on p.1 bs
  last [] s u None p r i l y t e = e ∙ sym (cond-true (ltb p.1 4294967296) (Some p.1) None (lt-ltb p.1 4294967296 l))
  last [] s u (Some x) p r i l y t e = absurd (y x u t)
  last (c ∷ cs) s u None p r i l y t e = absurd (y.0 u t)
  last (c ∷ cs) s u (Some x) p r i l y t e =
      let m = k p.1 x e.0 e.1 (subst (λ w. Called g w (p.1, (x, tt)) e.0 e.1) i e.3) in
      e.5 ∙ sym (number_stop p.1 c cs (sym e.4 ∙ m.1 ∙ ap (pushed p.1) (y.1 x u t).0))

  folded :
      (xs : List A) (bs : List ℕ) (s t u : S) (o : Option A) (p q : F × ℕ) (r : Option ℕ) → p.0 ≡ f → p.1 < 4294967296 →
      AlwaysYields steps v s bs → Yields steps s xs t → steps t o u → FoldsTo {P = F × ℕ} Turn p xs q → Ends o q r → r ≡ read_on p.1 bs
  folded [] bs s t u o p q r i l y w d c e =
      last bs s u o p r i l y (subst (λ z. steps z o u) (sym w) d) (subst (λ z. Ends o z r) (sym c) e)
  folded (x ∷ xs) [] s t u o p q r i l y w d c e = absurd (y x w.0 w.1)
  folded (x ∷ xs) (b ∷ bs) s t u o p q r i l y w d c e =
      let m = k p.1 x c.1.0 c.0.0 (subst (λ z. Called g z (p.1, (x, tt)) c.1.0 c.0.0) i c.1.1) in
      let z = y.1 x w.0 w.1 in
      let more = number_more p.1 b bs c.0.1 (sym c.1.2 ∙ m.1 ∙ ap (pushed p.1) z.0) in
      folded xs bs w.0 t u o c.0 q r m.0 more.1 z.1 w.2 d c.2 e ∙ sym more.0

-- the clause `ran` of `try_fold`, where each call pushes a digit
pub number_from_yields_List :
    {S A F E : Type 0} {steps : S → Option A → S → Type 0} {v : A → ℕ} {g : Mut F (ℕ × (A × Unit {0})) (Option ℕ)} {s : S}
    {all : List ℕ} (u : S) (f : F) (r : Option ℕ) →
    (xs : List A) × (o : Option A) × (h : F) × (a : ℕ) × YieldsThen steps s xs o u ×
    FoldsTo {P = F × ℕ} (λ p x q. (b : Option ℕ) × Called g p.0 (p.1, (x, tt)) b q.0 × (b ≡ Some q.1)) (f, 0) xs (h, a) ×
    MatchOption o (r ≡ Some a) (λ x. (b : Option ℕ) × (j : F) × (e : E) × Called g h (a, (x, tt)) b j × (b ≡ None) × (r ≡ None)) →
    YieldsList steps v s all → 0 < length all →
    ((a : ℕ) (x : A) (b : Option ℕ) (q : F) → Called g f (a, (x, tt)) b q → (q ≡ f) × (b ≡ pushed a (v x))) → r ≡ number all
number_from_yields_List {S} {A} {F} {E} {steps} {v} {g} {s} {all} u f r d y l k =
    folded S A F E steps v g f k d.0 all s d.4.0 u d.1 (f, 0) (d.2, d.3) r refl (omega arith) y.runs d.4.1 d.4.2 d.5 d.6 ∙
    sym (number_whole all l)
