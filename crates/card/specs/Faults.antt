-- Faults of a card, and answers that may be one.
use Rattle.std.specs.Prelude.{◌≡◌, ℕ, ◌⊎◌, Ok, Err, Result}
use Rattle.card.specs.declared.fault.CardFault.{CardFault}
use Rattle.card.specs.declared.fault.CardFault.TheVariants.{UnknownWord, BadForm, BadName, BadWeight, BadNumber, OutOfRange, TooManyTopics, Twice, NoTopics, Ids, OutOfMemory}

abbrev pub line_of : CardFault → ℕ
line_of (UnknownWord n) = n
line_of (BadForm n) = n
line_of (BadName n) = n
line_of (BadWeight n) = n
line_of (BadNumber n) = n
line_of (OutOfRange n) = n
line_of (TooManyTopics n) = n
line_of (Twice n) = n
line_of (NoTopics n) = n
line_of (Ids n why) = n
line_of (OutOfMemory n) = n

-- An answer r at line n is the one s that the text asks for, unless memory ran out there. f says what a value means.
abbrev pub Reads : {X Y : Type 0} → (X → Y) → ℕ → Result X CardFault → Result Y CardFault → Type 0
Reads f n (Ok x) s = s ≡ Ok (f x)
Reads f n (Err e) s = (e ≡ OutOfMemory n) ⊎ (s ≡ Err e)
