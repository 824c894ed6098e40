use Rattle.std.proofs.Common.{arith}
use Rattle.window.proofs.Draining.{draining_none, draining_more, drained_full, drained_ended}
use Rattle.window.proofs.window.Window.drain.Goals as goal

pub loop-place-init : goal.loop-place-init
loop-place-init c = draining_none _ c.args.start c.args.filled c.args.buffer.now (omega arith)

pub returns-in_default : goal.returns-in_default
returns-in_default c = record {
  drained = λ p q. drained_ended _ _ _ c.args.start c.args.filled _ c.loop-place.buffer c.loop-place.place c.in_default.ensures c.loop-place.invariant;
  kept = λ n. absurd (n (omega arith) (omega arith));
}

pub loop-place-preserved : goal.loop-place-preserved
loop-place-preserved c =
    draining_more _ _ _ c.args.start c.args.filled _ c.loop-place.buffer c.loop-place.place c.in-Some.delta c.in-Some.field-0-1
    c.told-buffer (omega arith) (omega arith) c.in-Some.ensures c.loop-place.invariant

pub returns : goal.returns
returns c = record {
  drained = λ p q. drained_full _ _ c.args.start c.args.filled _ c.loop-place.buffer c.loop-place.place (omega arith) c.loop-place.invariant;
  kept = λ n. absurd (n (omega arith) (omega arith));
}
