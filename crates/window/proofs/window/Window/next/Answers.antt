use Rattle.std.proofs.Common.{◌≡◌, ◌+◌, ◌<◌, length, sym, refl, ◌∙◌, arith, rules}
use Rattle.window.proofs.Slots.{first_some, behind_first, behind_all}
use Rattle.window.proofs.Held.{taken_cells, held_none}
use Rattle.window.proofs.window.Window.next.Goals as goal

pub invariant_of-self : goal.invariant_of-self
invariant_of-self c =
    let w = c.args.self.now in
    let n : length w.words ≡ 64 = search rules in
    record {
      rest = w.rest;
      behind = behind_all w.words w.bucket n w.behind (sym c.first_set.ensures ∙ c.in_default.is);
      inside = omega arith;
    }

pub invariant_of-self-2 : goal.invariant_of-self-2
invariant_of-self-2 c =
    let w = c.args.self.now in
    let n : length w.words ≡ 64 = search rules in
    let lt : w.bucket + c.in-Some.empty < 64 = search rules in
    record {
      rest = w.rest;
      behind = behind_first w.words w.bucket c.in-Some.empty n w.behind (sym c.first_set.ensures ∙ c.in-Some.is);
      inside = omega arith;
    }

pub pop-requires-clause-some : goal.pop-requires-clause-some
pop-requires-clause-some c =
    let w = c.args.self.now in
    first_some w.words w.bucket c.in-Some.empty (search rules) (sym c.first_set.ensures ∙ c.in-Some.is)

pub returns-in_default : goal.returns-in_default
returns-in_default c =
    let w = c.args.self.now in
    let n : length w.words ≡ 64 = search rules in
    let all = held_none w.words w.tallies n (behind_all w.words w.bucket n w.behind (sym c.first_set.ensures ∙ c.in_default.is)) in
    record { all = all; same = λ k. refl }

pub returns : goal.returns
returns c =
    let w = c.args.self.now in
    let n : length w.words ≡ 64 = search rules in
    let lt : w.bucket + c.in-Some.empty < 64 = search rules in
    let h = behind_first w.words w.bucket c.in-Some.empty n w.behind (sym c.first_set.ensures ∙ c.in-Some.is) in
    let p = c.pop.ensures in
    taken_cells w.words _ w.tallies _ (w.bucket + c.in-Some.empty) _ _ lt h p.taken p.read p.wiped
