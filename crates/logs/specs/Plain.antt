-- A plain list of pairs takes the same calls as a set, and answers them as the rules say of a steady one. It has no mark.
use Rattle.std.specs.Prelude.{ℕ, Bool, true, false, List, [], ◌∷◌, ◌++◌, Option, map, length, take, drop}
use Rattle.std.specs.Option.{option_to_list}
use Rattle.docset.specs.Meaning.{Pair, ids, first_id, first_score, rest, from, has, probed}
use Rattle.docset.specs.Bits.{count_alive}
use Rattle.logs.specs.declared.call.Call.{Call}
use Rattle.logs.specs.declared.call.Call.TheVariants.{Doc, Score, Advance, Seek, Probe, Block}
use Rattle.logs.specs.declared.call.Last.{Last}
use Rattle.logs.specs.declared.call.Last.TheVariants.{Keep, Count, CountIncludingDeleted}
use Rattle.logs.specs.declared.call.Answer.{Answer}
use Rattle.logs.specs.declared.call.Answer.TheVariants.{Id, Points, Hit, Miss, Written, Number}

-- what a call leaves of the list
abbrev pub after : Call → List Pair → List Pair
after Doc ps = ps
after Score ps = ps
after Advance ps = rest ps
after (Seek t) ps = from t ps
after (Probe t) ps = probed t ps
after (Block b) ps = drop 64 ps

-- what a probe tells, without its bound
abbrev pub hit : Bool → Answer
hit true = Hit
hit false = Miss

-- what a call is answered; a block's ids stand at the front of the buffer, and its later places are as they were
abbrev pub reply : Call → List Pair → Answer
reply Doc ps = Id (first_id ps)
reply Score ps = Points (first_score ps)
reply Advance ps = Id (first_id (rest ps))
reply (Seek t) ps = Id (first_id (from t ps))
reply (Probe t) ps = hit (has t ps)
reply (Block b) ps = Written (length (take 64 ps)) (take 64 (ids ps) ++ drop (length (take 64 ps)) b)

-- how a log ends: it may go on, or a count is its last call
pub data End : Type 0 where
  ongoing : End
  counted : List ℕ → End
  counted_all : End

-- the end that a program names, with the words of its alive set
abbrev pub end_of : Last → End
end_of Keep = ongoing
end_of (Count alive) = counted alive.now.words.now
end_of CountIncludingDeleted = counted_all

-- the answer of the end, if it has one
abbrev pub close : End → List Pair → List Answer
close ongoing ps = []
close (counted ws) ps = Number (count_alive ws ps) ∷ []
close counted_all ps = Number (length ps) ∷ []

-- the answers that a log has of its end: a count, or none
abbrev pub last_answer : Option ℕ → List Answer
last_answer r = map Number (option_to_list r)

-- the answers to the calls, in turn, and to the end
abbrev pub log : List Pair → List Call → End → List Answer
log ps [] z = close z ps
log ps (c ∷ cs) z = reply c ps ∷ log (after c ps) cs z

-- what the calls leave of the list
abbrev pub left : List Pair → List Call → List Pair
left ps [] = ps
left ps (c ∷ cs) = left (after c ps) cs

-- ---- which logs there may be

abbrev pub missed : Answer → Bool
missed (Id x) = false
missed (Points x) = false
missed Hit = false
missed Miss = true
missed (Written n b) = false
missed (Number n) = false

-- whether the last of these answers is a miss, where w says so of the one before them
abbrev pub missed_last : Bool → List Answer → Bool
missed_last w [] = w
missed_last w (x ∷ xs) = missed_last (missed x) xs

-- what may come next: everything, or only probes where the last call was a probe that missed
abbrev pub May : Bool → Call → Type 0
May false c = Unit {0}
May true Doc = ⊥
May true Score = ⊥
May true Advance = ⊥
May true (Seek t) = ⊥
May true (Probe t) = Unit {0}
May true (Block b) = ⊥

abbrev pub MayEnd : Bool → End → Type 0
MayEnd false z = Unit {0}
MayEnd true ongoing = Unit {0}
MayEnd true (counted ws) = ⊥
MayEnd true counted_all = ⊥

-- a log of these calls with these answers, where w says whether the call before was a probe that missed
abbrev pub LegalFrom : Bool → List Call → End → List Answer → Type 0
LegalFrom w [] z xs = MayEnd w z
LegalFrom w (c ∷ cs) z [] = ⊥
LegalFrom w (c ∷ cs) z (x ∷ xs) = May w c × LegalFrom (missed x) cs z xs

-- a log since the set was built: after a probe that missed only probes, until one finds
abbrev pub Legal : List Call → End → List Answer → Type 0
Legal cs z xs = LegalFrom false cs z xs

-- calls that are legal on the list, by its own answers
abbrev pub LegalOn : List Pair → List Call → End → Type 0
LegalOn ps cs z = Legal cs z (log ps cs z)
