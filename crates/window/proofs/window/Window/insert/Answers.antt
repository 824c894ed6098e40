use Rattle.std.proofs.Common.{◌/◌, ◌<◌, length, set, ap, arith, rules}
use Rattle.window.proofs.Slots.{inserted, rest_inserted}
use Rattle.window.proofs.Held.{put_cells}
use Rattle.window.proofs.window.Window.insert.Goals as goal

pub invariant_of-self : goal.invariant_of-self
invariant_of-self g c =
    let w = c.args.self.now in
    let lt : c.args.delta / 64 < length w.words = search rules in
    record {
      rest = rest_inserted w.words _ w.tallies c.args.delta _ (inserted w.words c.args.delta lt) w.rest;
      behind = λ k l. absurd (omega arith);
      inside = omega arith;
    }

pub returns : goal.returns
returns g c =
    let w = c.args.self.now in
    let lt : c.args.delta / 64 < length w.words = search rules in
    let lu : c.args.delta < length w.tallies = search rules in
    record {
      puts = λ h. put_cells _ w.words _ w.tallies _ c.args.delta c.args.score lu h w.rest (inserted w.words c.args.delta lt) (ap (set w.tallies c.args.delta) c.take.ensures);
      passes = λ h. absurd (omega arith);
    }
