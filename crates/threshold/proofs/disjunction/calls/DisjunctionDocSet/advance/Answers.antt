use Rattle.std.proofs.Common.{◌≡◌, ◌<◌, ◌≤◌, true, false, ◌⊎◌, arith, rules}
use Rattle.live.proofs.Thresholds.{total, total_kept}
use Rattle.live.specs.Views.{left}
use Rattle.threshold.specs.State.{room, unread_of, doc_of}
use Rattle.threshold.proofs.States.{moved_stay, moved_next, steady_fit, fit_ready, read_out}
use Rattle.threshold.proofs.disjunction.calls.DisjunctionDocSet.advance.Goals as goal

pub returns-then-is_some_and-clause-moved : goal.returns-then-is_some_and-clause-moved
returns-then-is_some_and-clause-moved g c =
    let q : doc_of c.args.self.now ≡ 2147483647 = search rules in
    moved_stay _ _ _ _ _ _ _ _ q

pub returns-then-is_some_and-clause-reads : goal.returns-then-is_some_and-clause-reads
returns-then-is_some_and-clause-reads g c =
    let q : doc_of c.args.self.now ≡ 2147483647 = search rules in
    let r : unread_of c.args.self.now ≡ false = search rules in
    λ s. read_out 2147483648 _ _ (fit_ready _ _ _ (steady_fit _ _ _ _ _ _ _ _ s)).0 (c.args.self.now.ends q r)

pub returns-clause-moved : goal.returns-clause-moved
returns-clause-moved g c =
    let u = c.args.self.now in
    let w = c.next_group-stand.ensures in
    let v = c.next_group-stand.new.self in
    let goes : (doc_of u < 2147483647) ⊎ (unread_of u ≡ true) = search rules in
    let small : total (left g.B.Bank.rows v.sets) ≤ room g.B.Bank.rows v = let a = total_kept v.sets.live (g.B.Bank.rows v.sets.bank).places in omega arith in
    moved_next _ _ _ _ _ _ _ (unread_of u) _ _ _ _ _ _ w.an_id u.waits goes w.pays small w.comes

pub returns-clause-reads : goal.returns-clause-reads
returns-clause-reads g c = λ s. c.next_group-stand.ensures.comes.reads (fit_ready _ _ _ (steady_fit _ _ _ _ _ _ _ _ s)).0
