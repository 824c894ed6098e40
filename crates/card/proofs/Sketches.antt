-- Lemmas on what a card says.
use Rattle.std.proofs.Common.{◌≡◌, ℕ, suc, ◌+◌, ◌<◌, ltb, ◌⊎◌, List, [], ◌∷◌, length, Ok, Err, Result, sym, ap, ◌∙◌, subst, inl, inr, add-one, arith}
use Rattle.std.proofs.lemmas.Bool.{lt-ltb, le-ltb, cond-true, cond-false}
use Rattle.card.specs.declared.fault.CardFault.{CardFault}
use Rattle.card.specs.declared.fault.CardFault.TheVariants.{NoTopics, OutOfMemory}
use Rattle.card.specs.Text.{lines}
use Rattle.card.specs.Faults.{line_of}
use Rattle.card.specs.Statements.{Said, said}
use Rattle.card.specs.Cards.{Sketch, taken, next, read_lines, card_of, Parses}

-- ---- line by line

-- what these lines say at line m, and the lines after it
abbrev from_line : ℕ → Sketch → List ℕ → List (List ℕ) → Result Sketch CardFault
from_line m k l ls = next (next (said m l) (taken m k)) (λ j. read_lines m j ls)

pub line_taken :
    (n : ℕ) (k j : Sketch) (l : List ℕ) (ls : List (List ℕ)) (s : Said) → said (n + 1) l ≡ Ok s → taken (n + 1) k s ≡ Ok j →
    read_lines n k (l ∷ ls) ≡ read_lines (n + 1) j ls
line_taken n k j l ls s e f =
    subst (λ (m : ℕ). from_line m k l ls ≡ read_lines (n + 1) j ls) (add-one n)
    (ap (λ (r : Result Said CardFault). next (next r (taken (n + 1) k)) (λ i. read_lines (n + 1) i ls)) e ∙
    ap (λ (r : Result Sketch CardFault). next r (λ i. read_lines (n + 1) i ls)) f)

pub line_refused :
    (n : ℕ) (k : Sketch) (l : List ℕ) (ls : List (List ℕ)) (e : CardFault) → said (n + 1) l ≡ Err e →
    read_lines n k (l ∷ ls) ≡ Err e
line_refused n k l ls e h =
    subst (λ (m : ℕ). from_line m k l ls ≡ Err e) (add-one n)
    (ap (λ (r : Result Said CardFault). next (next r (taken (n + 1) k)) (λ i. read_lines (n + 1) i ls)) h)

pub put_refused :
    (n : ℕ) (k : Sketch) (l : List ℕ) (ls : List (List ℕ)) (s : Said) (e : CardFault) → said (n + 1) l ≡ Ok s →
    taken (n + 1) k s ≡ Err e → read_lines n k (l ∷ ls) ≡ Err e
put_refused n k l ls s e h f =
    subst (λ (m : ℕ). from_line m k l ls ≡ Err e) (add-one n)
    (ap (λ (r : Result Said CardFault). next (next r (taken (n + 1) k)) (λ i. read_lines (n + 1) i ls)) h ∙
    ap (λ (r : Result Sketch CardFault). next r (λ i. read_lines (n + 1) i ls)) f)

-- a fault at line n + 1 ends it
pub stopped :
    (bs : List ℕ) (n : ℕ) (e : CardFault) → n < length (lines bs) → (e ≡ OutOfMemory (n + 1)) ⊎ (card_of bs ≡ Err e) →
    Parses bs (Err e)
stopped bs n e h (inl m) =
    let at : line_of e ≡ n + 1 = ap line_of m in
    inl (m ∙ ap (λ (k : ℕ). OutOfMemory k) (sym at), omega (arith, at), omega (arith, at))
stopped bs n e h (inr f) = inr f

pub ends_empty : (n : ℕ) (k : Sketch) → length k.topics ≡ 0 → read_lines n k [] ≡ Err (NoTopics (n + 1))
ends_empty n k h =
    cond-false (ltb 0 (length k.topics)) (Ok k) (Err (NoTopics (suc n))) (le-ltb 0 (length k.topics) (omega arith)) ∙
    ap {B = Result Sketch CardFault} (λ (m : ℕ). Err (NoTopics m)) (sym (add-one n))

pub ends_some : (n : ℕ) (k : Sketch) → 0 < length k.topics → read_lines n k [] ≡ Ok k
ends_some n k h = cond-true (ltb 0 (length k.topics)) (Ok k) (Err (NoTopics (suc n))) (lt-ltb 0 (length k.topics) h)
