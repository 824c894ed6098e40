use Rattle.std.proofs.Common.{◌≡◌, ◌-◌, ◌*◌, ◌/◌, ◌<◌, ◌≤◌, ◌⊎◌, min, inl, inr, arith}
use Rattle.refill.specs.Refills.{reach}
use Rattle.refill.proofs.Moves.{told}
use Rattle.refill.proofs.Seeks.{sought_stay, skipped, sought_far}
use Rattle.refill.proofs.Reaches.{reads_same, reads_far}
use Rattle.union.proofs.Ghosts.{fields_wiped}
use Rattle.union.proofs.buffered_union.calls.BufferedUnionScorerDocSet.seek.Goals.{then-self-target-via-then-self-target, then-self-target-via-else-self-target+then-self-eq-TERMINATED}
use Rattle.union.proofs.buffered_union.calls.BufferedUnionScorerDocSet.seek.Goals as goal

pub returns-then-self-target-clause-moves : goal.returns-then-self-target-clause-moves
returns-then-self-target-clause-moves g c =
    let u = c.args.self.now in
    let stays : (c.args.target ≤ u.doc) ⊎ (u.doc ≡ 2147483647) = elim c.then-self-target.branch [
      | then-self-target-via-then-self-target w ↦ inl w.if-self-target.true
      | then-self-target-via-else-self-target+then-self-eq-TERMINATED w ↦ inr w.if-self-eq-TERMINATED.true
    ] in
    sought_stay c.args.target u.doc _ stays (told _ _ _ _ _ _ _ _ u.an_id)

pub returns-then-self-target-clause-reads : goal.returns-then-self-target-clause-reads
returns-then-self-target-clause-reads g c = let u = c.args.self.now in reads_same u.start u.doc _ u.an_id u.span

pub invariant_of-self : goal.invariant_of-self
invariant_of-self g c = fields_wiped c.args.self.now _ c.skip.new.self c.skip.ensures.wiped

pub returns-then-target-end-clause-moves : goal.returns-then-target-end-clause-moves
returns-then-target-end-clause-moves g c =
    let u = c.args.self.now in
    let e = c.horizon-end.ensures in
    let b = u.begun in
    let l : u.doc < c.args.target = c.if-self-target.false in
    let h : c.args.target < reach u.start = let n = c.if-target-end.true in omega arith in
    skipped _ _ u.start u.doc c.args.target (min ((c.args.target - u.start) / 64) 64 * 64) u.score _ _ _ _ _ _ u.begun l h (omega arith) c.skip.ensures.wiped c.walk_to.ensures.sought

pub returns-clause-moves : goal.returns-clause-moves
returns-clause-moves g c =
    let u = c.args.self.now in
    let e = c.horizon-end.ensures in
    let h : reach u.start ≤ c.args.target = let n = c.if-target-end.false in omega arith in
    let v = c.seek_all.ensures in
    sought_far _ _ u.start u.doc c.args.target u.score _ _ _ _ _ _ _ (omega (arith, u.an_id, c.if-self-eq-TERMINATED.false)) c.if-self-target.false h v.rises v.becomes v.pays c.open.ensures.opened

pub returns-clause-reads : goal.returns-clause-reads
returns-clause-reads g c =
    let u = c.args.self.now in
    let e = c.horizon-end.ensures in
    let h : reach u.start ≤ c.args.target = let n = c.if-target-end.false in omega arith in
    let v = c.seek_all.ensures in
    reads_far u.start u.doc c.args.target _ c.open.result _ _ _ _ (omega (arith, u.an_id, c.if-self-eq-TERMINATED.false)) h c.open.ensures.stands v.rises v.becomes c.open.ensures.anew
