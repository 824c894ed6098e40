use Rattle.std.proofs.Common.{arith, rules}
use Rattle.std.proofs.lemmas.Grind.{common_steps}
use Rattle.window.proofs.Slots.{fresh, rest_emptied}
use Rattle.window.proofs.window.Window.wipe.Goals as goal

pub invariant_of-self : goal.invariant_of-self
invariant_of-self c =
    let w = c.args.self.now in
    let f = fresh w.tallies c.fill.new.self c.args.at c.requires (search rules) (search rules) in
    record {
      rest = rest_emptied w.words w.tallies _ c.args.at f w.rest;
      behind = λ k lt. grind (arith, common_steps, w.behind k);
      inside = w.inside;
    }

pub returns-then-self-at-ne0-clause-tallies : goal.returns-then-self-at-ne0-clause-tallies
returns-then-self-at-ne0-clause-tallies c =
    let f = fresh c.args.self.now.tallies c.fill.new.self c.args.at c.requires (search rules) (search rules) in
    f.outside
