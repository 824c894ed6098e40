-- Two sets that are asked the same, answer by answer.
use Rattle.std.proofs.Common.{◌≡◌, ℕ, zero, suc, ◌+◌, ◌<◌, Bool, true, false, eqb, List, [], ◌∷◌, ◌++◌, length, get_or, take, Option, Some, None, sym, refl, ◌∙◌, subst, inl, inr, ⊎_elim, arith}
use Rattle.std.proofs.lemmas.List.{take_all, append_cancel_left}
use Rattle.std.proofs.lemmas.Bool.{cases_eq, eq-eqb, ne_eqb}
use Rattle.std.specs.Option.{option_eq}
use Rattle.docset.specs.Meaning.{Meaning, Pair, Steady}
use Rattle.logs.specs.declared.call.Call.{Call}
use Rattle.logs.specs.declared.call.Answer.{Answer}
use Rattle.logs.specs.declared.call.Answer.TheVariants.{Number}
use Rattle.logs.specs.Plain.{after, reply, End, ongoing, last_answer, log, missed, MayEnd, LegalFrom, Legal, LegalOn}
use Rattle.logs.specs.Runs.{Promise, Ended, Runs, Begins, Agreed}
use Rattle.logs.proofs.Laws.{plainly, plainly_on, runs_more, runs_end}

-- ---- the first calls of a log

may_go_on : (w : Bool) → MayEnd w ongoing
may_go_on true = tt
may_go_on false = tt

legal_first : (w : Bool) (ps : List Pair) (k : ℕ) (cs : List Call) (z : End) → LegalFrom w cs z (log ps cs z) → LegalFrom w (take k cs) ongoing (log ps (take k cs) ongoing)
legal_first w ps zero cs z h = may_go_on w
legal_first w ps (suc k) [] z h = may_go_on w
legal_first w ps (suc k) (c ∷ cs) z h = (h.0, legal_first (missed (reply c ps)) (after c ps) k cs z h.1)

log_first : (ps qs : List Pair) (k : ℕ) (cs : List Call) (z : End) → log ps cs z ≡ log qs cs z → log ps (take k cs) ongoing ≡ log qs (take k cs) ongoing
log_first ps qs zero cs z e = refl
log_first ps qs (suc k) [] z e = refl
log_first ps qs (suc k) (c ∷ cs) z e =
    let f = log_first (after c ps) (after c qs) k cs z (cc) in
    cc

-- ---- what equal and unequal answers tell

module _ (m n i j : Meaning) (cs : List Call) (z : End) where
  pub agreed_same : (xs : List Answer) → Runs m cs z xs i → Runs n cs z xs j → Agreed m n i j cs z true
  agreed_same xs r q =
      record {
        same = λ _. (xs, r, q);
        differ = λ e. cc;
        plain = λ s t h.
            let a = (plainly_on false m i cs z xs s r h).said in (
              (λ _. sym a ∙ (plainly false n j cs z xs t q (subst (λ (v : List Answer). Legal cs z v) (sym a) h)).said),
              (λ _. refl),
            );
      }

  -- equal logs of the lists allow no other answers
  same_answers :
      (xs ys : List Answer) → Runs m cs z xs i → Runs n cs z ys j → Steady m → Steady n → LegalOn m.pairs cs z →
      log m.pairs cs z ≡ log n.pairs cs z → xs ≡ ys
  same_answers xs ys r q s t h e =
      (plainly_on false m i cs z xs s r h).said ∙ e ∙
      sym (plainly_on false n j cs z ys t q (subst (λ (v : List Answer). Legal cs z v) e h)).said

begun :
    (m n i j : Meaning) (ds cs : List Call) (y z : End) → Begins ds y cs z → (xs ys : List Answer) → Runs m ds y xs i → Runs n ds y ys j →
    Steady m → Steady n → LegalOn m.pairs cs z → log m.pairs cs z ≡ log n.pairs cs z → xs ≡ ys
begun m n i j ds cs y z (inl b) xs ys r q s t h e =
    same_answers m n i j (take b.0 cs) ongoing xs ys (rw (b.1, b.2) at r) (rw (b.1, b.2) at q) s t
    (legal_first false m.pairs b.0 cs z h) (log_first m.pairs n.pairs b.0 cs z e)
begun m n i j ds cs y z (inr b) xs ys r q s t h e =
    same_answers m n i j cs z xs ys (rw (b.0, b.1) at r) (rw (b.0, b.1) at q) s t h e

pub agreed_not :
    (m n i j : Meaning) (cs : List Call) (z : End) (ds : List Call) (y : End) (xs ys : List Answer) → Begins ds y cs z →
    Runs m ds y xs i → Runs n ds y ys j → (xs ≡ ys → ⊥) → Agreed m n i j cs z false
agreed_not m n i j cs z ds y xs ys b r q ne =
    record {
      same = λ e. cc;
      differ = λ _. (ds, y, xs, ys, b, r, q, ne);
      plain = λ s t h. (
        (λ e. cc),
        (λ e. absurd (ne (begun m n i j ds cs y z b xs ys r q s t h e))),
      );
    }

-- ---- call by call

-- k calls were made, and all answers were the same
abbrev pub Agreeing : Meaning → Meaning → Meaning → Meaning → List Call → ℕ → Type 0
Agreeing m n i j cs k = (xs : List Answer) × Runs m (take k cs) ongoing xs i × Runs n (take k cs) ongoing xs j

module _ (m n i j : Meaning) (cs : List Call) (k : ℕ) (a : Agreeing m n i j cs k) (d : Call) (i' j' : Meaning) (x y : Answer) (h : k < length cs) (u : Promise (get_or cs k d) i i' x) (v : Promise (get_or cs k d) j j' y) where
  first_more : Runs m (take (k + 1) cs) ongoing (a.0 ++ x ∷ []) i'
  first_more = runs_more m i i' cs k d a.0 (a.0 ++ x ∷ []) x h refl a.1 u

  second_more : Runs n (take (k + 1) cs) ongoing (a.0 ++ y ∷ []) j'
  second_more = runs_more n j j' cs k d a.0 (a.0 ++ y ∷ []) y h refl a.2 v

  pub agree_more : x ≡ y → Agreeing m n i' j' cs (k + 1)
  agree_more e =
      (a.0 ++ x ∷ [], first_more, subst (λ (w : Answer). Runs n (take (k + 1) cs) ongoing (a.0 ++ w ∷ []) j') (sym e) second_more)

  pub agree_stops : (x ≡ y → ⊥) → Agreed m n i' j' cs ongoing false
  agree_stops ne =
      agreed_not m n i' j' cs ongoing (take (k + 1) cs) ongoing (a.0 ++ x ∷ []) (a.0 ++ y ∷ []) (inl (k + 1, refl, refl))
      first_more second_more (λ e. let f = append_cancel_left a.0 (x ∷ []) (y ∷ []) e in ne (cc))

pub agree_all : (m n i j : Meaning) (cs : List Call) (k : ℕ) → Agreeing m n i j cs k → k ≡ length cs → Agreed m n i j cs ongoing true
agree_all m n i j cs k a e =
    let f : take k cs ≡ cs = take_all _ _ (omega arith) in
    agreed_same m n i j cs ongoing a.0 (rw f at a.1) (rw f at a.2)

-- ---- the end

begins_end : (ds cs : List Call) (y z : End) → Begins ds y cs ongoing → Begins ds y cs z
begins_end ds cs y z (inl b) = inl b
begins_end ds cs y z (inr b) = inl (length cs, b.0 ∙ sym (take_all (length cs) cs (omega arith)), b.1)

pub end_not : (m n i j : Meaning) (cs : List Call) (z : End) → Agreed m n i j cs ongoing false → Agreed m n i j cs z false
end_not m n i j cs z h =
    let b = h.differ refl in
    agreed_not m n i j cs z b.0 b.1 b.2 b.3 (begins_end b.0 cs b.1 z b.4) b.5 b.6 b.7

module _ (m n i j : Meaning) (cs : List Call) (z : End) (h : Agreed m n i j cs ongoing true) where
  end_same : (xs : List Answer) → Ended z i xs → Ended z j xs → Agreed m n i j cs z true
  end_same xs u v =
      let a = h.same refl in
      agreed_same m n i j cs z (a.0 ++ xs) (runs_end m i cs z a.0 xs a.1 u) (runs_end n j cs z a.0 xs a.2 v)

  end_differs : (xs ys : List Answer) → Ended z i xs → Ended z j ys → (xs ≡ ys → ⊥) → Agreed m n i j cs z false
  end_differs xs ys u v ne =
      let a = h.same refl in
      agreed_not m n i j cs z cs z (a.0 ++ xs) (a.0 ++ ys) (inr (refl, refl)) (runs_end m i cs z a.0 xs a.1 u)
      (runs_end n j cs z a.0 ys a.2 v) (λ e. ne (append_cancel_left a.0 xs ys e))

  pub end_counts : (x y : Option ℕ) → Ended z i (last_answer x) → Ended z j (last_answer y) → Agreed m n i j cs z (option_eq eqb x y)
  end_counts None None u v = end_same [] u v
  end_counts None (Some y) u v = end_differs [] (Number y ∷ []) u v (λ e. cc)
  end_counts (Some x) None u v = end_differs (Number x ∷ []) [] u v (λ e. cc)
  end_counts (Some x) (Some y) u v =
      ⊎_elim {C = Agreed m n i j cs z (eqb x y)}
      (λ e.
      subst (λ (b : Bool). Agreed m n i j cs z b) (sym (eq-eqb x y e))
      (end_same (Number x ∷ []) u (subst (λ (w : ℕ). Ended z j (Number w ∷ [])) (sym e) v)))
      (λ ne.
      subst (λ (b : Bool). Agreed m n i j cs z b) (sym (ne_eqb x y ne))
      (end_differs (Number x ∷ []) (Number y ∷ []) u v (λ e. ne (cc))))
      (cases_eq x y)
