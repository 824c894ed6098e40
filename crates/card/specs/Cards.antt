-- What a whole card says.
use Rattle.std.specs.Prelude.{◌≡◌, ℕ, suc, ◌≤◌, Bool, cond, ◌⊎◌, List, [], ◌∷◌, ◌++◌, map, length, pos, is_some, Some, None, Ok, Err, vec_items, Option, Result, from_bits, nat_lt, Float}
use Rattle.std.specs.Float.Ieee.{of_int, div}
use Rattle.std.specs.Float.{binary32}
use Rattle.std.specs.Option.{option_map, unwrap_or}
use Rattle.card.specs.declared.card.Card.{Card}
use Rattle.card.specs.declared.fault.CardFault.{CardFault}
use Rattle.card.specs.declared.fault.CardFault.TheVariants.{TooManyTopics, Twice, NoTopics, OutOfMemory}
use Rattle.card.specs.Text.{lines}
use Rattle.card.specs.Faults.{line_of}
use Rattle.card.specs.Statements.{Plain, plain, Said, nothing, topic, bonus, seen, pick, at_least, said}

-- hundredths as a number: n / 100.0, each rounded to the nearest
abbrev pub weight_score : ℕ → Float
weight_score n = div binary32 (of_int binary32 (pos n)) (from_bits binary32 1120403456)

-- a card by its lists and numbers; a line is None where its statement does not stand
pub record Sketch : Type 0 where
  pub topics : List Plain
  pub extra : Option Plain
  pub seen_ids : List ℕ
  pub shown : ℕ
  pub least : ℕ
  pub seen_line : Option ℕ
  pub shown_line : Option ℕ
  pub least_line : Option ℕ

abbrev pub sketch : Card → Sketch
sketch k = record {
  topics = map plain (vec_items k.topics);
  extra = option_map plain k.bonus;
  seen_ids = unwrap_or (option_map (λ s. vec_items s.value) k.seen) [];
  shown = unwrap_or (option_map (λ s. s.value) k.pick) 10;
  least = unwrap_or (option_map (λ s. s.value) k.at_least) 1;
  seen_line = option_map (λ s. s.line) k.seen;
  shown_line = option_map (λ s. s.line) k.pick;
  least_line = option_map (λ s. s.line) k.at_least;
}

-- a card on which nothing stands
abbrev pub blank : Sketch
blank = record {
  topics = [];
  extra = None;
  seen_ids = [];
  shown = 10;
  least = 1;
  seen_line = None;
  shown_line = None;
  least_line = None;
}

-- ---- one statement more; n is its line

abbrev pub with_topic : Plain → Sketch → Sketch
with_topic p k = record k { topics = k.topics ++ p ∷ [] }

abbrev pub with_extra : Plain → Sketch → Sketch
with_extra p k = record k { extra = Some p }

abbrev pub with_seen : ℕ → List ℕ → Sketch → Sketch
with_seen n ids k = record k { seen_ids = ids; seen_line = Some n }

abbrev pub with_shown : ℕ → ℕ → Sketch → Sketch
with_shown n m k = record k { shown = m; shown_line = Some n }

abbrev pub with_least : ℕ → ℕ → Sketch → Sketch
with_least n m k = record k { least = m; least_line = Some n }

-- what may stand once: nothing stands there yet
abbrev pub once : {X : Type 0} → ℕ → Bool → X → Result X CardFault
once n stands x = cond stands (Err (Twice n)) (Ok x)

-- at most 32 topics; the others once
abbrev pub taken : ℕ → Sketch → Said → Result Sketch CardFault
taken n k nothing = Ok k
taken n k (topic p) = cond (nat_lt (length k.topics) 32) (Ok (with_topic p k)) (Err (TooManyTopics n))
taken n k (bonus p) = once n (is_some k.extra) (with_extra p k)
taken n k (seen ids) = once n (is_some k.seen_line) (with_seen n ids k)
taken n k (pick m) = once n (is_some k.shown_line) (with_shown n m k)
taken n k (at_least m) = once n (is_some k.least_line) (with_least n m k)

-- ---- all lines

-- the first fault ends it
abbrev pub next : {X Y : Type 0} → Result X CardFault → (X → Result Y CardFault) → Result Y CardFault
next (Ok x) f = f x
next (Err e) f = Err e

-- these lines after the first n, which have said k
abbrev pub read_lines : ℕ → Sketch → List (List ℕ) → Result Sketch CardFault
read_lines n k [] = cond (nat_lt 0 (length k.topics)) (Ok k) (Err (NoTopics (suc n)))
read_lines n k (l ∷ ls) = next (next (said (suc n) l) (taken (suc n) k)) (λ j. read_lines (suc n) j ls)

abbrev pub card_of : List ℕ → Result Sketch CardFault
card_of bs = read_lines 0 blank (lines bs)

-- an answer is the one that the text asks for, unless memory ran out at one of its lines
abbrev pub Parses : List ℕ → Result Card CardFault → Type 0
Parses bs (Ok k) = card_of bs ≡ Ok (sketch k)
Parses bs (Err e) = ((e ≡ OutOfMemory (line_of e)) × (1 ≤ line_of e) × (line_of e ≤ length (lines bs))) ⊎ (card_of bs ≡ Err e)

-- ---- limits

-- a line of a card of m lines
abbrev pub On : ℕ → ℕ → Type 0
On m n = (1 ≤ n) × (n ≤ m)

abbrev pub OnIf : ℕ → Option ℕ → Type 0
OnIf m None = Unit {0}
OnIf m (Some n) = On m n

abbrev pub AllOn : ℕ → List Plain → Type 0
AllOn m [] = Unit {0}
AllOn m (p ∷ ps) = On m p.line × AllOn m ps

-- what holds of every card of m lines that is read; of its ids nothing is said, since their rules are the set's
pub record Limits (m : ℕ) (k : Sketch) : Type 0 where
  pub some : 1 ≤ length k.topics
  pub few : length k.topics ≤ 32
  pub shows : (1 ≤ k.shown) × (k.shown ≤ 64)
  pub asks : (1 ≤ k.least) × (k.least ≤ 32)
  pub topic_lines : AllOn m k.topics
  pub extra_line : OnIf m (option_map (λ p. p.line) k.extra)
  pub seen_line : OnIf m k.seen_line

-- a fault names a line of the card, or the one after its last
abbrev pub Limited : ℕ → Result Sketch CardFault → Type 0
Limited m (Ok k) = Limits m k
Limited m (Err e) = On (suc m) (line_of e)

-- what a reader's answer means
abbrev pub sketched : Result Card CardFault → Result Sketch CardFault
sketched (Ok k) = Ok (sketch k)
sketched (Err e) = Err e
