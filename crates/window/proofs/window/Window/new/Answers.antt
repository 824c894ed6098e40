use Rattle.std.proofs.Common.{◌∙◌, arith}
use lib.ListN.{get_or-replicate}
use Rattle.window.specs.Slots.{blank}
use Rattle.window.proofs.Held.{held_zeros}
use Rattle.window.proofs.window.Window.new.Goals as goal

pub invariant_of-result : goal.invariant_of-result
invariant_of-result c = record {
  rest = λ d lt z. get_or-replicate 4096 d c.new.result blank lt ∙ c.new.ensures;
  behind = λ k l. absurd (omega arith);
  inside = omega arith;
}

pub returns : goal.returns
returns c = record { empty = λ e. held_zeros _ e }
