-- Probing a set for ids that rise.
use Rattle.std.proofs.Common.{◌≡◌, ℕ, suc, ◌+◌, ◌<◌, ◌≤◌, Bool, true, false, cond, ltb, List, [], ◌∷◌, length, get_or, drop, sym, refl, ap, ◌∙◌, subst, ⊎_elim, arith}
use Rattle.std.proofs.lemmas.List.{drop_more, drop_all}
use Rattle.std.proofs.lemmas.Bool.{cases_lt}
use Rattle.docset.specs.declared.docset.SeekDangerResult.{SeekDangerResult}
use Rattle.docset.specs.declared.docset.SeekDangerResult.TheVariants.{Found, SeekLowerBound}
use Rattle.docset.specs.Meaning.{Meaning, Mark, Pair, TERM, Known, from, has, probed, RisingIds}
use Rattle.docset.specs.Calls.{found, Marks, Probed}
use Rattle.docset.proofs.Lists.{steady_known, from_lt, from_ge, has_ne}
use Rattle.placement.specs.Lessons.{listed_count}

-- what is dropped lies below t
has_from : (t u : ℕ) (ps : List Pair) → t ≤ u → has u (from t ps) ≡ has u ps
has_from t u [] h = refl
has_from t u (p ∷ ps) h =
    ⊎_elim {C = has u (from t (p ∷ ps)) ≡ has u (p ∷ ps)}
    (λ l. ap (has u) (from_lt t p ps l) ∙ has_from t u ps h ∙ sym (has_ne u p ps (λ e. omega arith)))
    (λ l. ap (has u) (from_ge t p ps l))
    (cases_lt p.id t)

has_probed : (t u : ℕ) (ps : List Pair) → t ≤ u → has u (probed t ps) ≡ has u ps
has_probed t u ps h =
    elim (ltb t TERM) as (λ (b : Bool). has u (cond b (from t ps) ps) ≡ has u ps) [
      | true ↦ has_from t u ps h
      | false ↦ refl
    ]

-- ids up to some place were probed: the set still tells every id from lo on as it did at first
pub record Sofar (m n : Meaning) (xs rest : List ℕ) (count : ℕ) : Type 0 where
  pub known : Known n.mark
  pub sum : count + listed_count rest m.pairs ≡ listed_count xs m.pairs
  pub lo : ℕ
  pub rises : RisingIds lo rest
  pub same : (u : ℕ) → lo ≤ u → has u n.pairs ≡ has u m.pairs

pub starts : (m : Meaning) (xs : List ℕ) → Known m.mark → RisingIds 0 xs → Sofar m m xs xs 0
starts m xs k r = record { known = k; sum = omega arith; lo = 0; rises = r; same = λ u h. refl }

marked : (r : SeekDangerResult) (k : Mark) → Marks r k → Known k
marked Found k h = steady_known k h
marked (SeekLowerBound b) k h = h

step :
    (m n o : Meaning) (xs : List ℕ) (x : ℕ) (ys : List ℕ) (count : ℕ) (r : SeekDangerResult) → Sofar m n xs (x ∷ ys) count →
    Probed x n o r → Sofar m o xs ys (count + cond (found r) 1 0)
step m n o xs x ys count r h p =
    let a = p.answers h.known in
    let told : found r ≡ has x m.pairs = a.tells ∙ h.same x h.rises.0 in
    record {
      known = marked r o.mark a.marks;
      sum = omega (arith, h.sum, ap {B = ℕ} (λ (b : Bool). cond b 1 0) told);
      lo = suc x;
      rises = h.rises.2;
      same = λ u l. ap (has u) a.leaves ∙ has_probed x u n.pairs (omega arith) ∙ h.same u (omega (arith, h.rises.0));
    }

pub one_found : (r : SeekDangerResult) → r ≡ Found → ◌≡◌ {A = ℕ} 1 (cond (found r) 1 0)
one_found r e = ap {B = ℕ} (λ x. cond (found x) 1 0) (sym e)

pub none_found : (r : SeekDangerResult) → (r ≡ Found → ⊥) → ◌≡◌ {A = ℕ} 0 (cond (found r) 1 0)
none_found Found e = absurd (e refl)
none_found (SeekLowerBound b) e = refl

-- the same at a place of the ids
pub probe_at :
    (m n o : Meaning) (xs : List ℕ) (i count more : ℕ) (r : SeekDangerResult) → i < length xs → Sofar m n xs (drop i xs) count →
    Probed (get_or xs i 0) n o r → more ≡ cond (found r) 1 0 → Sofar m o xs (drop (i + 1) xs) (count + more)
probe_at m n o xs i count more r l h p e =
    subst (λ (k : ℕ). Sofar m o xs (drop (i + 1) xs) (count + k)) (sym e)
    (step m n o xs (get_or xs i 0) (drop (i + 1) xs) count r
    (subst (λ (ys : List ℕ). Sofar m n xs ys count) (drop_more xs i 0 l) h)
    p)

pub ends : (m n : Meaning) (xs : List ℕ) (i count : ℕ) → length xs ≤ i → Sofar m n xs (drop i xs) count → count ≡ listed_count xs m.pairs
ends m n xs i count l h =
    omega (arith, h.sum, ap (λ (ys : List ℕ). listed_count ys m.pairs) (drop_all i xs l))
