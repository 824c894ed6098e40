-- Numbers and fields in a text. A text is the list of its bytes.
use Rattle.std.specs.Prelude.{◌≡◌, ℕ, ◌+◌, ◌-◌, ◌*◌, ◌<◌, Bool, true, cond, ◌&&◌, ◌||◌, List, [], ◌∷◌, ◌++◌, length, Some, None, decimal, Option, ◌==◌, nat_le, nat_lt}
use Rattle.std.specs.Borrow.{Bor}
use Rattle.std.specs.Option.{option_map}
use Rattle.std.specs.Char.{is_ascii_digit, is_ascii_alphabetic}

-- ---- numbers

-- the bytes `0` to `9`
abbrev pub digit : ℕ → Bool
digit c = nat_le 48 c && nat_le c 57

abbrev pub all_digits : List ℕ → Bool
all_digits [] = true
all_digits (c ∷ cs) = digit c && all_digits cs

-- the number that these digits write after the digits of n
abbrev pub value_after : ℕ → List ℕ → ℕ
value_after n [] = n
value_after n (c ∷ cs) = value_after (n * 10 + (c - 48)) cs

-- a number with one more digit; none if this is no digit, or past 4294967295
abbrev pub pushed : ℕ → ℕ → Option ℕ
pushed n c = cond (digit c && nat_lt (n * 10 + (c - 48)) 4294967296) (Some (n * 10 + (c - 48))) None

-- a number is one digit or more; past 4294967295 there is none
abbrev pub is_number : List ℕ → Bool
is_number bs = nat_lt 0 (length bs) && (all_digits bs && nat_lt (value_after 0 bs) 4294967296)

abbrev pub number : List ℕ → Option ℕ
number bs = cond (is_number bs) (Some (value_after 0 bs)) None

-- ---- parts of a text

-- what stands before the first c; all, where there is none
abbrev pub before : ℕ → List ℕ → List ℕ
before c [] = []
before c (x ∷ xs) = cond (x == c) [] (x ∷ before c xs)

-- what stands after the first c, where there is one
abbrev pub after : ℕ → List ℕ → Option (List ℕ)
after c [] = None
after c (x ∷ xs) = cond (x == c) (Some xs) (after c xs)

-- ---- fields

-- a field that has been read so far; an empty one is none
abbrev pub closed : List ℕ → List (List ℕ)
closed [] = []
closed (c ∷ cs) = (c ∷ cs) ∷ []

-- the fields of a text, parted by one space or more, after the begun field w
abbrev pub fields_after : List ℕ → List ℕ → List (List ℕ)
fields_after w [] = closed w
fields_after w (c ∷ cs) = cond (c == 32) (closed w ++ fields_after [] cs) (fields_after (w ++ c ∷ []) cs)

abbrev pub fields : List ℕ → List (List ℕ)
fields bs = fields_after [] bs

-- all numbers of these, or none if one is no number
abbrev pub put_first : Option ℕ → Option (List ℕ) → Option (List ℕ)
put_first None ns = None
put_first (Some n) None = None
put_first (Some n) (Some ns) = Some (n ∷ ns)

abbrev pub numbers : List (List ℕ) → Option (List ℕ)
numbers [] = Some []
numbers (f ∷ fs) = put_first (number f) (numbers fs)

abbrev pub ids_of : List ℕ → Option (List ℕ)
ids_of bs = numbers (fields bs)

-- ---- lines

-- the lines of a text, each up to a line feed, after the begun line l; nothing after the last line feed is no line
abbrev pub lines_after : List ℕ → List ℕ → List (List ℕ)
lines_after l [] = closed l
lines_after l (c ∷ cs) = cond (c == 10) (l ∷ lines_after [] cs) (lines_after (l ++ c ∷ []) cs)

abbrev pub lines : List ℕ → List (List ℕ)
lines bs = lines_after [] bs

-- the first part of a text and what stands behind it, or no part at all; f gives the parts
abbrev pub First : (List ℕ → List (List ℕ)) → List ℕ → Option (Bor (List ℕ) × Bor (List ℕ)) → Type 0
First f bs None = f bs ≡ []
First f bs (Some p) = (f bs ≡ p.0.now ∷ f p.1.now) × (length p.1.now < length bs)

-- ---- weights, in hundredths

-- one or two digits after the point
abbrev pub cents : List ℕ → Option ℕ
cents ds = cond (length ds == 1) (option_map (λ n. n * 10) (number ds)) (cond (length ds == 2) (number ds) None)

-- without a point there are no hundredths
abbrev pub cents_after : Option (List ℕ) → Option ℕ
cents_after None = Some 0
cents_after (Some ds) = cents ds

-- at most a thousand
abbrev pub weighed : Option ℕ → Option ℕ → Option ℕ
weighed None h = None
weighed (Some w) None = None
weighed (Some w) (Some h) = cond (nat_le (w * 100 + h) 100000) (Some (w * 100 + h)) None

abbrev pub weight : List ℕ → Option ℕ
weight bs = weighed (number (before 46 bs)) (cents_after (after 46 bs))

-- ---- names

-- a digit, a letter, `-` or `_`
abbrev pub name_byte : ℕ → Bool
name_byte c = is_ascii_digit c || (is_ascii_alphabetic c || (c == 45 || c == 95))

abbrev pub all_name : List ℕ → Bool
all_name [] = true
all_name (c ∷ cs) = name_byte c && all_name cs

-- a text that is a name, one byte long or more
abbrev pub name : List ℕ → Option (List ℕ)
name bs = cond (nat_lt 0 (length bs) && all_name bs) (Some bs) None

-- ---- writing

-- these numbers in decimal, with a space between them
abbrev pub written : List ℕ → List ℕ
written [] = []
written (n ∷ []) = decimal n
written (n ∷ m ∷ ns) = decimal n ++ 32 ∷ written (m ∷ ns)

-- each fits 32 bits
abbrev pub Fit : List ℕ → Type 0
Fit [] = Unit {0}
Fit (n ∷ ns) = (n < 4294967296) × Fit ns
