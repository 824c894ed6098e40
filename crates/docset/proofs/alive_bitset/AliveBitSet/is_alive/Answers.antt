use Rattle.std.proofs.Common.{◌≡◌, ℕ, ◌/◌, ◌%◌, ◌^◌, ◌≤◌, false, eqb, List, length, get_or, ap, sym}
use native.Mathlib.Nat.{zero-div}
use Rattle.std.proofs.lemmas.Nat.{and_mask}
use Rattle.std.proofs.lemmas.Bool.{ltb-true, ltb-false}
use Rattle.std.proofs.lemmas.List.{get_or_past, get_or_read}
use Rattle.docset.proofs.alive_bitset.AliveBitSet.is_alive.Goals as goal

pub returns-in-Some : goal.returns-in-Some
returns-in-Some c = rw (and_mask _ 1) (ap (λ (w : ℕ). eqb (w / 2 ^ (c.args.doc % 64) % 2) 1) (get_or_read _ _ _ (ltb-true _ _ (sym c.in-Some.ensures.lookup.0)) c.in-Some.ensures.lookup.1 0))

past_words : (ws : List ℕ) (d k : ℕ) → length ws ≤ d / 64 → false ≡ eqb (get_or ws (d / 64) 0 / k % 2) 1
past_words ws d k h = simp (get_or_past ws (d / 64) 0 h, zero-div)

pub returns-in-None : goal.returns-in-None
returns-in-None c =
    past_words c.args.self.now.words.now c.args.doc (2 ^ (c.args.doc % 64)) (ltb-false _ _ (sym c.in-None.ensures.lookup.0))
