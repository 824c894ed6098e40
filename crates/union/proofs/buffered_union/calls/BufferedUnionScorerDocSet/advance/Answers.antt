use Rattle.window.specs.Windows.{cells}
use Rattle.std.proofs.Common.{◌+◌, ◌<◌, ◌∙◌, arith}
use Rattle.refill.proofs.Moves.{moved_stay, moved_next, moved_open}
use Rattle.refill.proofs.Reaches.{reads_same, reads_next, reads_anew}
use Rattle.union.proofs.Ghosts.{none_before, none_past, fields_next, fields_none, next_inside}
use Rattle.union.proofs.buffered_union.calls.BufferedUnionScorerDocSet.advance.Goals as goal

pub returns-then-self-eq-TERMINATED-clause-moves : goal.returns-then-self-eq-TERMINATED-clause-moves
returns-then-self-eq-TERMINATED-clause-moves g c = moved_stay _ _ _ _ _ _ _ _ c.if-self-eq-TERMINATED.true

pub returns-then-self-eq-TERMINATED-clause-reads : goal.returns-then-self-eq-TERMINATED-clause-reads
returns-then-self-eq-TERMINATED-clause-reads g c = let u = c.args.self.now in reads_same u.start u.doc _ u.an_id u.span

pub invariant_of-self : goal.invariant_of-self
invariant_of-self g c =
    let u = c.args.self.now in
    fields_next u.start c.in-Some.delta u.window c.next.new.self c.in-Some.tally (none_past u) c.in-Some.ensures

pub invariant_of-self-in-None : goal.invariant_of-self-in-None
invariant_of-self-in-None g c =
    let u = c.args.self.now in
    let n = c.in-None.ensures in
    fields_none u.start u.doc c.next.new.self u.an_id u.begun u.span (λ k. n.same k ∙ n.all k)

pub returns-in-Some-clause-moves : goal.returns-in-Some-clause-moves
returns-in-Some-clause-moves g c =
    let u = c.args.self.now in
    rw c.tell-self.ensures
    (moved_next _ _ u.start u.doc c.in-Some.delta u.score c.in-Some.tally (cells u.window) (cells c.next.new.self) _ _ (omega (arith, u.an_id, c.if-self-eq-TERMINATED.false)) u.begun (none_before u) (none_past u) c.in-Some.ensures)

pub returns-in-Some-clause-reads : goal.returns-in-Some-clause-reads
returns-in-Some-clause-reads g c =
    let u = c.args.self.now in
    let n = c.in-Some.ensures in
    let i = n.inside in
    reads_next u.start u.doc (u.start + c.in-Some.delta) _ (omega (arith, u.an_id, c.if-self-eq-TERMINATED.false))
    (next_inside u.start c.in-Some.delta u.window c.next.new.self c.in-Some.tally (none_past u) n) (omega arith)

pub returns-in-None-clause-moves : goal.returns-in-None-clause-moves
returns-in-None-clause-moves g c =
    let u = c.args.self.now in
    let lt : u.doc < 2147483647 = omega (arith, u.an_id, c.if-self-eq-TERMINATED.false) in
    moved_open _ _ u.start u.doc _ _ _ _ _ _ lt (u.span lt) c.in-None.ensures.all c.open.ensures.opened

pub returns-in-None-clause-reads : goal.returns-in-None-clause-reads
returns-in-None-clause-reads g c =
    let u = c.args.self.now in
    reads_anew u.start u.doc _ c.open.result _ _ _ c.open.ensures.stands c.open.ensures.anew
