use Rattle.std.proofs.Common.{refl, arith}
use Rattle.docset.specs.Calls.{Scored}
use Rattle.bank.proofs.Rows.{elsewhere, moved_at}
use Rattle.bank.proofs.vec_bank.VecBank.score_at.Goals as goal

pub returns-in-Some-clause-tells : goal.returns-in-Some-clause-tells
returns-in-Some-clause-tells g c =
    moved_at g.S.DocSet.meaning (λ m n. Scored m n c.score.result) c.args.self.now.items c.args.place _ _ (omega (arith, c.in-Some.ensures.variant.0 refl, c.args.self.now.ok)) c.in-Some.ensures.value c.score.ensures

pub returns-in-Some-clause-others : goal.returns-in-Some-clause-others
returns-in-Some-clause-others g c = elsewhere _ _ _ _ _ _
