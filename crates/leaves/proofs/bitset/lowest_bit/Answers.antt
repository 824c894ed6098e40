use Rattle.std.proofs.Common.{sym, arith}
use Rattle.std.proofs.lemmas.Nat.{shr_le}
use Rattle.leaves.proofs.Words.{word_none, word_some}
use Rattle.leaves.proofs.bitset.lowest_bit.Goals as goal

pub returns-then-rest-eq0 : goal.returns-then-rest-eq0
returns-then-rest-eq0 c = sym (word_none c.args.word c.args.from (omega arith) c.if-rest-eq0.true)

pub returns : goal.returns
returns c =
    let l = shr_le c.args.word c.args.from in
    sym (word_some c.args.word c.args.from (omega arith) (omega (arith, c.if-rest-eq0.false)) (omega arith))
