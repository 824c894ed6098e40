use Rattle.std.proofs.Common.{arith}
use Rattle.window.proofs.Bits.{popped}
use Rattle.window.proofs.word.pop_lowest.Goals as goal

pub returns : goal.returns
returns c = popped c.args.word.now c.requires (omega arith)
