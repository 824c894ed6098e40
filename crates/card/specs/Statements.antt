-- What one line of a card says.
use Rattle.std.specs.Prelude.{ℕ, cond, ◌&&◌, List, [], ◌∷◌, Some, None, Ok, Err, vec_items, string_bytes, codes, Option, Result, ◌==◌, nat_le, slice_index}
use Rattle.std.specs.Option.{ok_or}
use Rattle.std.specs.Str.{bytes_eq}
use Rattle.card.specs.declared.card.Topic as card
use Rattle.card.specs.declared.fault.CardFault.{CardFault}
use Rattle.card.specs.declared.fault.CardFault.TheVariants.{UnknownWord, BadForm, BadName, BadWeight, BadNumber, OutOfRange}
use Rattle.card.specs.declared.statement.Word.{Word}
use Rattle.card.specs.declared.statement.Word.TheVariants as word
use Rattle.card.specs.declared.statement.Statement.{Statement}
use Rattle.card.specs.declared.statement.Statement.TheVariants as statement
use Rattle.card.specs.Text.{fields, before, after, number, weight, name, ids_of}

-- a topic: the bytes of its name, its weight in hundredths, its ids, and its line
pub record Plain : Type 0 where
  pub name : List ℕ
  pub weight : ℕ
  pub ids : List ℕ
  pub line : ℕ

abbrev pub plain : card.Topic → Plain
plain t = record { name = string_bytes t.name; weight = t.weight; ids = vec_items t.ids; line = t.line }

-- what a line says
pub data Said : Type 0 where
  nothing : Said
  topic bonus : Plain → Said
  seen : List ℕ → Said
  pick at_least : ℕ → Said

abbrev pub meant : Statement → Said
meant statement.Nothing = nothing
meant (statement.Topic t) = topic (plain t)
meant (statement.Bonus t) = bonus (plain t)
meant (statement.Seen ids) = seen (vec_items ids)
meant (statement.Pick n) = pick n
meant (statement.AtLeast n) = at_least n

-- the five words
abbrev pub word_of : List ℕ → Option Word
word_of w =
    cond (bytes_eq w (codes "topic")) (Some word.Topic)
    (cond (bytes_eq w (codes "bonus")) (Some word.Bonus)
    (cond (bytes_eq w (codes "seen")) (Some word.Seen)
    (cond (bytes_eq w (codes "pick")) (Some word.Pick) (cond (bytes_eq w (codes "at-least")) (Some word.AtLeast) None))))

-- ---- what stands behind the word; n is the line

-- no field more
abbrev pub ended : ℕ → List (List ℕ) → Result (Unit {0}) CardFault
ended n [] = Ok tt
ended n (w ∷ ws) = Err (BadForm n)

-- behind a name: a weight, or nothing, which is 1
abbrev pub weight_in : ℕ → List (List ℕ) → Result ℕ CardFault
weight_in n [] = Ok 100
weight_in n (w ∷ []) = ok_or (weight w) (BadWeight n)
weight_in n (w ∷ x ∷ ws) = Err (BadForm n)

-- the first fault in the order name, weight, ids
abbrev pub topic_of : ℕ → Result (List ℕ) CardFault → Result ℕ CardFault → Result (List ℕ) CardFault → Result Plain CardFault
topic_of n (Err e) w is = Err e
topic_of n (Ok x) (Err e) is = Err e
topic_of n (Ok x) (Ok w) (Err e) = Err e
topic_of n (Ok x) (Ok w) (Ok is) = Ok (record { name = x; weight = w; ids = is; line = n })

-- fields, and what stands behind a colon
abbrev pub topic_in : ℕ → List (List ℕ) → Option (List ℕ) → Result Plain CardFault
topic_in n ws None = Err (BadForm n)
topic_in n [] (Some t) = Err (BadForm n)
topic_in n (w ∷ ws) (Some t) = topic_of n (ok_or (name w) (BadName n)) (weight_in n ws) (ok_or (ids_of t) (BadNumber n))

abbrev pub seen_in : ℕ → List (List ℕ) → Option (List ℕ) → Result (List ℕ) CardFault
seen_in n ws None = Err (BadForm n)
seen_in n [] (Some t) = ok_or (ids_of t) (BadNumber n)
seen_in n (w ∷ ws) (Some t) = Err (BadForm n)

-- from 1 to most
abbrev pub in_range : ℕ → ℕ → Option ℕ → Result ℕ CardFault
in_range n most None = Err (BadNumber n)
in_range n most (Some k) = cond (nat_le 1 k && nat_le k most) (Ok k) (Err (OutOfRange n))

abbrev pub count_in : ℕ → ℕ → List (List ℕ) → Option (List ℕ) → Result ℕ CardFault
count_in n most ws (Some t) = Err (BadForm n)
count_in n most [] None = Err (BadForm n)
count_in n most (w ∷ []) None = in_range n most (number w)
count_in n most (w ∷ x ∷ ws) None = Err (BadForm n)

-- ---- a line

abbrev pub said_as : {X Y : Type 0} → (X → Y) → Result X CardFault → Result Y CardFault
said_as f (Ok x) = Ok (f x)
said_as f (Err e) = Err e

abbrev pub said_of : ℕ → Option Word → List (List ℕ) → Option (List ℕ) → Result Said CardFault
said_of n None ws t = Err (UnknownWord n)
said_of n (Some word.Topic) ws t = said_as topic (topic_in n ws t)
said_of n (Some word.Bonus) ws t = said_as bonus (topic_in n ws t)
said_of n (Some word.Seen) ws t = said_as seen (seen_in n ws t)
said_of n (Some word.Pick) ws t = said_as pick (count_in n 64 ws t)
said_of n (Some word.AtLeast) ws t = said_as at_least (count_in n 32 ws t)

-- a line with no field says nothing, and so does one that begins with `#`
abbrev pub said_in : ℕ → List (List ℕ) → Option (List ℕ) → Result Said CardFault
said_in n [] None = Ok nothing
said_in n [] (Some t) = Err (UnknownWord n)
said_in n (w ∷ ws) t = cond (slice_index w 0 == 35) (Ok nothing) (said_of n (word_of w) ws t)

-- the first colon parts the fields from the ids
abbrev pub said : ℕ → List ℕ → Result Said CardFault
said n bs = said_in n (fields (before 58 bs)) (after 58 bs)
