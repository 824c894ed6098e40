use Rattle.std.proofs.Common.{rules}
use Rattle.bank.proofs.Probing.{found_first}
use Rattle.bank.proofs.bank.SetsBank.holds.Goals as goal

pub returns-then-eq : goal.returns-then-eq
returns-then-eq g c = rw c.if-eq.true (found_first _ _ _ _ _ _ _ _ _ (search rules) c.seek_danger.ensures)
