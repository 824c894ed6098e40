use Rattle.std.proofs.Common.{refl, arith}
use Rattle.logs.proofs.Steps.{agree_more, agree_stops, agree_all}
use Rattle.logs.proofs.alike.agree.Goals as goal

pub returns-then-not-same_answer : goal.returns-then-not-same_answer
returns-then-not-same_answer g c =
    agree_stops _ _ _ _ c.args.calls.now c.loop-call.call-index c.loop-call.invariant _ _ _ _ _ (omega arith) c.ask-answer.ensures.keeps c.ask-other.ensures.keeps
    (λ h. cc (c.if-not-same_answer.ensures.1 h))

pub loop-call-preserved : goal.loop-call-preserved
loop-call-preserved g c =
    agree_more _ _ _ _ c.args.calls.now c.loop-call.call-index c.loop-call.invariant _ _ _ _ _ (omega arith) c.ask-answer.ensures.keeps c.ask-other.ensures.keeps
    (c.if-not-same_answer.ensures.0 refl)

pub returns : goal.returns
returns g c = agree_all _ _ _ _ c.args.calls.now c.loop-call.call-index c.loop-call.invariant (omega arith)
