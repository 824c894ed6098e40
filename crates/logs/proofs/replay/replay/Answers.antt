use Rattle.std.proofs.Common.{◌≡◌, take, vec_items, arith, rules}
use Rattle.std.proofs.lemmas.List.{take_all}
use Rattle.logs.specs.Plain.{ongoing}
use Rattle.logs.proofs.Laws.{runs_more, replayed}
use Rattle.logs.proofs.replay.replay.Goals as goal

pub loop-call-preserved : goal.loop-call-preserved
loop-call-preserved g c = (
  search rules,
  search rules,
  runs_more (g.S.DocSet.meaning c.args.set.now) (g.S.DocSet.meaning c.loop-call.set) (g.S.DocSet.meaning c.ask-answer.new.set) c.args.calls.now c.loop-call.call-index _ (vec_items c.loop-call.answers) (vec_items c.push_reserved.new.self) c.ask-answer.result (omega arith) c.push_reserved.ensures.items c.loop-call.invariant.2 c.ask-answer.ensures.keeps,
)

pub returns : goal.returns
returns g c =
    let e : take c.loop-call.call-index c.args.calls.now ≡ c.args.calls.now = take_all _ _ (omega arith) in
    replayed (g.S.DocSet.meaning c.args.set.now) (g.S.DocSet.meaning c.loop-call.set) c.args.calls.now ongoing (vec_items c.loop-call.answers) (rw e at c.loop-call.invariant.2)
