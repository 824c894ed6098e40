use Rattle.std.proofs.Common.{arith}
use Rattle.std.proofs.lemmas.Grind.{common_steps}
use Rattle.window.proofs.window.Window.pop.Goals as goal

pub invariant_of-self : goal.invariant_of-self
invariant_of-self c = record {
  rest = λ d lt z. grind (arith, common_steps, c.args.self.now.rest d);
  behind = λ k lt. grind (arith, common_steps, c.args.self.now.behind k);
  inside = c.args.self.now.inside;
}
