use Rattle.std.proofs.Common.{◌≡◌, ◌+◌, ◌<◌, length, take, drop, set, sym, ap, ◌∙◌, arith, length-set, length-take-le}
use Rattle.std.proofs.lemmas.List.{take_all, take_more_set, drop-set-lt, drop-drop}
use Rattle.logs.proofs.Laws.{runs_more, replayed}
use Rattle.logs.proofs.replay.replay_into.Goals as goal

pub loop-place-preserved : goal.loop-place-preserved
loop-place-preserved g c =
    let cs = take c.min-made.result c.args.calls.now in
    let i = c.loop-place.place in
    let a = c.loop-place.answers in
    let x = c.ask.result in
    let v = c.loop-place.invariant in
    let n = length-take-le c.min-made.result c.args.calls.now (omega arith) in
    let h : i < length cs = omega arith in
    let k : i < length a = omega (arith, v.whole) in
    record {
      whole = length-set a i x ∙ v.whole;
      later = drop-set-lt (i + 1) a i x (omega arith) ∙ sym (drop-drop 1 i a) ∙ ap (drop 1) v.later ∙ drop-drop 1 i c.args.answers.now;
      runs = runs_more (g.S.DocSet.meaning c.args.set.now) (g.S.DocSet.meaning c.loop-place.set) (g.S.DocSet.meaning c.ask.new.set) cs i _ (take i a) (take (i + 1) (set a i x)) x h (take_more_set a i x k) v.runs c.ask.ensures.keeps;
    }

pub returns-clause-log : goal.returns-clause-log
returns-clause-log g c =
    let cs = take c.min-made.result c.args.calls.now in
    let n = length-take-le c.min-made.result c.args.calls.now (omega arith) in
    let e : c.loop-place.place ≡ c.min-made.result = omega arith in
    let f : take c.min-made.result cs ≡ cs = take_all _ _ (omega arith) in
    replayed _ _ _ _ _ (rw (e, f) at c.loop-place.invariant.runs)
