use Rattle.std.proofs.Common.{refl, arith}
use Rattle.docset.specs.Calls.{Probed}
use Rattle.bank.proofs.Rows.{elsewhere, moved_at}
use Rattle.bank.proofs.vec_bank.VecBank.probe_at.Goals as goal

pub returns-in-Some-clause-moves : goal.returns-in-Some-clause-moves
returns-in-Some-clause-moves g c =
    moved_at g.S.DocSet.meaning (λ m n. Probed c.args.target m n c.seek_danger.result) c.args.self.now.items c.args.place _ _ (omega (arith, c.in-Some.ensures.variant.0 refl, c.args.self.now.ok)) c.in-Some.ensures.value c.seek_danger.ensures

pub returns-in-Some-clause-others : goal.returns-in-Some-clause-others
returns-in-Some-clause-others g c = elsewhere _ _ _ _ _ _
