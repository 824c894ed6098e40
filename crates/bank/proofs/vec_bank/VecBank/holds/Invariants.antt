use Rattle.bank.proofs.Probing.{Probing}
use Rattle.bank.proofs.vec_bank.VecBank.holds.Given as goal

abbrev pub invariant-loop-set : goal.invariant-loop-set
invariant-loop-set g l = Probing g.S.DocSet.meaning l.doc l.fn.self.items l.set-items l.set-index
