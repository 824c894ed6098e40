use Rattle.logs.proofs.Steps.{Agreeing}
use Rattle.logs.proofs.alike.agree.Given as goal

abbrev pub invariant-loop-call : goal.invariant-loop-call
invariant-loop-call g l =
    Agreeing (g.P.DocSet.meaning l.initial.p) (g.Q.DocSet.meaning l.initial.q) (g.P.DocSet.meaning l.p) (g.Q.DocSet.meaning l.q) l.calls l.call-index
