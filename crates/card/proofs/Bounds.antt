-- The limits of a card that is read, and the line that a fault names.
use Rattle.std.proofs.Common.{◌≡◌, ℕ, suc, ◌+◌, ◌≤◌, Bool, true, false, cond, ◌&&◌, eqb, ltb, leb, List, [], ◌∷◌, ◌++◌, length, get_or, is_some, Some, None, Ok, Err, Option, Result, refl, subst, inl, inr, arith}
use Rattle.std.proofs.lemmas.List.{length_push}
use Rattle.std.proofs.lemmas.Bool.{ltb-true, leb-true, and_parts}
use Rattle.std.specs.Option.{ok_or, option_map}
use Rattle.card.specs.declared.card.Card.{Card}
use Rattle.card.specs.declared.fault.CardFault.{CardFault}
use Rattle.card.specs.declared.fault.CardFault.TheVariants.{BadName, BadNumber, BadWeight, NoTopics, OutOfRange, TooManyTopics}
use Rattle.card.specs.declared.statement.Word.{Word}
use Rattle.card.specs.declared.statement.Word.TheVariants as word
use Rattle.card.specs.Text.{fields, before, after, lines, number, weight, name, ids_of}
use Rattle.card.specs.Faults.{line_of}
use Rattle.card.specs.Statements.{Plain, Said, nothing, topic, bonus, seen, pick, at_least, weight_in, topic_of, topic_in, seen_in, in_range, count_in, said_as, said_of, said_in, said, word_of}
use Rattle.card.specs.Cards.{Sketch, blank, sketched, with_topic, with_extra, with_seen, with_shown, with_least, once, taken, next, read_lines, card_of, Parses, On, OnIf, AllOn, Limited}

-- ---- what a line says

-- an answer of line n: a fault names that line, and a value has P
abbrev At : {X : Type 0} → ℕ → (X → Type 0) → Result X CardFault → Type 0
At n P (Ok x) = P x
At n P (Err e) = line_of e ≡ n

abbrev Any : {X : Type 0} → X → Type 0
Any x = Unit {0}

abbrev Upto : ℕ → ℕ → Type 0
Upto most k = (1 ≤ k) × (k ≤ most)

or_at : {X : Type 0} (n : ℕ) (o : Option X) (e : CardFault) → line_of e ≡ n → At n Any (ok_or o e)
or_at n None e h = h
or_at n (Some x) e h = tt

weight_at : (n : ℕ) (ws : List (List ℕ)) → At n Any (weight_in n ws)
weight_at n [] = tt
weight_at n (w ∷ []) = or_at n (weight w) (BadWeight n) refl
weight_at n (w ∷ x ∷ ws) = refl

topic_of_at :
    (n : ℕ) (a : Result (List ℕ) CardFault) (b : Result ℕ CardFault) (c : Result (List ℕ) CardFault) → At n Any a → At n Any b →
    At n Any c → At n (λ p. p.line ≡ n) (topic_of n a b c)
topic_of_at n (Err e) b c p q r = p
topic_of_at n (Ok x) (Err e) c p q r = q
topic_of_at n (Ok x) (Ok w) (Err e) p q r = r
topic_of_at n (Ok x) (Ok w) (Ok is) p q r = refl

topic_at : (n : ℕ) (ws : List (List ℕ)) (t : Option (List ℕ)) → At n (λ p. p.line ≡ n) (topic_in n ws t)
topic_at n [] None = refl
topic_at n (w ∷ ws) None = refl
topic_at n [] (Some t) = refl
topic_at n (w ∷ ws) (Some t) =
    topic_of_at n (ok_or (name w) (BadName n)) (weight_in n ws) (ok_or (ids_of t) (BadNumber n)) (or_at n (name w) (BadName n) refl)
    (weight_at n ws)
    (or_at n (ids_of t) (BadNumber n) refl)

seen_at : (n : ℕ) (ws : List (List ℕ)) (t : Option (List ℕ)) → At n Any (seen_in n ws t)
seen_at n [] None = refl
seen_at n (w ∷ ws) None = refl
seen_at n [] (Some t) = or_at n (ids_of t) (BadNumber n) refl
seen_at n (w ∷ ws) (Some t) = refl

range_cond : (n most k : ℕ) (b : Bool) → (b ≡ true → Upto most k) → At n (Upto most) (cond b (Ok k) (Err (OutOfRange n)))
range_cond n most k true h = h refl
range_cond n most k false h = refl

range_at : (n most : ℕ) (o : Option ℕ) → At n (Upto most) (in_range n most o)
range_at n most None = refl
range_at n most (Some k) =
    range_cond n most k (leb 1 k && leb k most)
    (λ h. let p = and_parts (leb 1 k) (leb k most) h in (leb-true 1 k p.0, leb-true k most p.1))

count_at : (n most : ℕ) (ws : List (List ℕ)) (t : Option (List ℕ)) → At n (Upto most) (count_in n most ws t)
count_at n most [] (Some t) = refl
count_at n most (w ∷ []) (Some t) = refl
count_at n most (w ∷ x ∷ ws) (Some t) = refl
count_at n most [] None = refl
count_at n most (w ∷ []) None = range_at n most (number w)
count_at n most (w ∷ x ∷ ws) None = refl

-- what is known of what line n says
abbrev Fair : ℕ → Said → Type 0
Fair n nothing = Unit {0}
Fair n (topic p) = p.line ≡ n
Fair n (bonus p) = p.line ≡ n
Fair n (seen ids) = Unit {0}
Fair n (pick k) = Upto 64 k
Fair n (at_least k) = Upto 32 k

as_at : {X : Type 0} (n : ℕ) (P : X → Type 0) (f : X → Said) (r : Result X CardFault) → At n P r → ((x : X) → P x → Fair n (f x)) → At n (Fair n) (said_as f r)
as_at n P f (Ok x) h k = k x h
as_at n P f (Err e) h k = h

said_of_at : (n : ℕ) (o : Option Word) (ws : List (List ℕ)) (t : Option (List ℕ)) → At n (Fair n) (said_of n o ws t)
said_of_at n None ws t = refl
said_of_at n (Some word.Topic) ws t = as_at n (λ p. p.line ≡ n) topic (topic_in n ws t) (topic_at n ws t) (λ x h. h)
said_of_at n (Some word.Bonus) ws t = as_at n (λ p. p.line ≡ n) bonus (topic_in n ws t) (topic_at n ws t) (λ x h. h)
said_of_at n (Some word.Seen) ws t = as_at n Any seen (seen_in n ws t) (seen_at n ws t) (λ x h. tt)
said_of_at n (Some word.Pick) ws t = as_at n (Upto 64) pick (count_in n 64 ws t) (count_at n 64 ws t) (λ x h. h)
said_of_at n (Some word.AtLeast) ws t = as_at n (Upto 32) at_least (count_in n 32 ws t) (count_at n 32 ws t) (λ x h. h)

said_in_at : (n : ℕ) (ws : List (List ℕ)) (t : Option (List ℕ)) → At n (Fair n) (said_in n ws t)
said_in_at n [] None = tt
said_in_at n [] (Some t) = refl
said_in_at n (w ∷ ws) t =
    elim (eqb (get_or w 0 0) 35) as (λ (b : Bool). At n (Fair n) (cond b (Ok nothing) (said_of n (word_of w) ws t))) [
      | true ↦ tt
      | false ↦ said_of_at n (word_of w) ws t
    ]

-- ---- what the lines so far have said

pub record Bound (m : ℕ) (k : Sketch) : Type 0 where
  pub few : length k.topics ≤ 32
  pub shows : Upto 64 k.shown
  pub asks : Upto 32 k.least
  pub topic_lines : AllOn m k.topics
  pub extra_line : OnIf m (option_map (λ p. p.line) k.extra)
  pub seen_line : OnIf m k.seen_line

all_push : (m : ℕ) (ps : List Plain) (p : Plain) → AllOn m ps → On m p.line → AllOn m (ps ++ p ∷ [])
all_push m [] p h k = (k, tt)
all_push m (q ∷ ps) p h k = (h.0, all_push m ps p h.1 k)

-- at a line of the card the bounds stay
abbrev Kept : ℕ → ℕ → Result Sketch CardFault → Type 0
Kept m n r = At n (Bound m) r

once_kept : (m n : ℕ) (b : Bool) (j : Sketch) → Bound m j → Kept m n (once n b j)
once_kept m n true j h = refl
once_kept m n false j h = h

topic_kept :
    (m n : ℕ) (k j : Sketch) (b : Bool) → (b ≡ true → Bound m j) → Kept m n (cond b (Ok j) (Err (TooManyTopics n)))
topic_kept m n k j true h = h refl
topic_kept m n k j false h = refl

on_line : (m n i : ℕ) → On m n → i ≡ n → On m i
on_line m n i h e = (omega (arith, h.0, e), omega (arith, h.1, e))

taken_kept : (m n : ℕ) (k : Sketch) (s : Said) → On m n → Bound m k → Fair n s → Kept m n (taken n k s)
taken_kept m n k nothing o h f = h
taken_kept m n k (topic p) o h f =
    topic_kept m n k (with_topic p k) (ltb (length k.topics) 32)
    (λ t. record {
      few = omega (arith, length_push k.topics p, ltb-true (length k.topics) 32 t);
      shows = h.shows;
      asks = h.asks;
      topic_lines = all_push m k.topics p h.topic_lines (on_line m n p.line o f);
      extra_line = h.extra_line;
      seen_line = h.seen_line;
    })
taken_kept m n k (bonus p) o h f =
    once_kept m n (is_some k.extra) (with_extra p k) (record {
      few = h.few;
      shows = h.shows;
      asks = h.asks;
      topic_lines = h.topic_lines;
      extra_line = on_line m n p.line o f;
      seen_line = h.seen_line;
    })
taken_kept m n k (seen ids) o h f =
    once_kept m n (is_some k.seen_line) (with_seen n ids k) (record {
      few = h.few;
      shows = h.shows;
      asks = h.asks;
      topic_lines = h.topic_lines;
      extra_line = h.extra_line;
      seen_line = o;
    })
taken_kept m n k (pick x) o h f =
    once_kept m n (is_some k.shown_line) (with_shown n x k) (record {
      few = h.few;
      shows = f;
      asks = h.asks;
      topic_lines = h.topic_lines;
      extra_line = h.extra_line;
      seen_line = h.seen_line;
    })
taken_kept m n k (at_least x) o h f =
    once_kept m n (is_some k.least_line) (with_least n x k) (record {
      few = h.few;
      shows = h.shows;
      asks = f;
      topic_lines = h.topic_lines;
      extra_line = h.extra_line;
      seen_line = h.seen_line;
    })

-- ---- all lines

ends_limited : (m n : ℕ) (k : Sketch) (b : Bool) → n ≡ m → Bound m k → (b ≡ true → 1 ≤ length k.topics) → Limited m (cond b (Ok k) (Err (NoTopics (suc n))))
ends_limited m n k true e h some = record {
  some = some refl;
  few = h.few;
  shows = h.shows;
  asks = h.asks;
  topic_lines = h.topic_lines;
  extra_line = h.extra_line;
  seen_line = h.seen_line;
}
ends_limited m n k false e h some = (omega arith, omega (arith, e))

put_limited : (m n : ℕ) (r : Result Sketch CardFault) (f : Sketch → Result Sketch CardFault) → On m n → Kept m n r → ((j : Sketch) → Bound m j → Limited m (f j)) → Limited m (next r f)
put_limited m n (Ok j) f o h go = go j h
put_limited m n (Err e) f o h go = (omega (arith, o.0, h), omega (arith, o.1, h))

line_kept : (m n : ℕ) (k : Sketch) (r : Result Said CardFault) → On m n → Bound m k → At n (Fair n) r → Kept m n (next r (taken n k))
line_kept m n k (Ok s) o h f = taken_kept m n k s o h f
line_kept m n k (Err e) o h f = f

lines_limited : (m n : ℕ) (k : Sketch) (ls : List (List ℕ)) → n + length ls ≡ m → Bound m k → Limited m (read_lines n k ls)
lines_limited m n k [] e h =
    ends_limited m n k (ltb 0 (length k.topics)) (omega (arith, e)) h (λ t. ltb-true 0 (length k.topics) t)
lines_limited m n k (l ∷ ls) e h =
    let on : On m (suc n) = (omega arith, omega (arith, e)) in
    put_limited m (suc n) (next (said (suc n) l) (taken (suc n) k)) (λ j. read_lines (suc n) j ls) on
    (line_kept m (suc n) k (said (suc n) l) on h (said_in_at (suc n) (fields (before 58 l)) (after 58 l)))
    (λ j b. lines_limited m (suc n) j ls (omega (arith, e)) b)

card_limited : (bs : List ℕ) → Limited (length (lines bs)) (card_of bs)
card_limited bs =
    lines_limited (length (lines bs)) 0 blank (lines bs) (omega arith) (record {
      few = omega arith;
      shows = (omega arith, omega arith);
      asks = (omega arith, omega arith);
      topic_lines = tt;
      extra_line = tt;
      seen_line = tt;
    })

-- an answer that is the one asked for, or that memory ran out
pub parses_limited : (bs : List ℕ) (r : Result Card CardFault) → Parses bs r → Limited (length (lines bs)) (sketched r)
parses_limited bs (Ok k) h = subst (Limited (length (lines bs))) h (card_limited bs)
parses_limited bs (Err e) (inl h) = (h.1, omega (arith, h.2))
parses_limited bs (Err e) (inr h) = subst (Limited (length (lines bs))) h (card_limited bs)
