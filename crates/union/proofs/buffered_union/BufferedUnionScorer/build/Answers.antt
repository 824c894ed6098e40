use Rattle.live.specs.Views.{left}
use Rattle.std.proofs.Common.{ap, ◌∙◌, arith}
use Rattle.docset.specs.Meaning.{Meaning, calm, from}
use Rattle.bank.specs.Places.{at}
use Rattle.live.specs.Sets.{lowest_of}
use Rattle.live.proofs.Keeps.{idle_steady, idle_low, alike_places}
use Rattle.live.proofs.Passed.{at_passed_sets}
use Rattle.live.proofs.Scores.{union_alike}
use Rattle.refill.specs.Refills.{reach}
use Rattle.refill.proofs.Moves.{idle_calm}
use Rattle.union.proofs.Ghosts.{fields_none, lowest_alike, alike_steady}
use Rattle.union.proofs.buffered_union.BufferedUnionScorer.build.Goals as goal

pub invariant_of-refused : goal.invariant_of-refused
invariant_of-refused g c = fields_none 0 2147483647 c.new-window.result (omega arith) (omega arith) (λ l. absurd (omega arith)) c.new-window.ensures.empty

pub returns-then-len-gt-MOST-clause-empty : goal.returns-then-len-gt-MOST-clause-empty
returns-then-len-gt-MOST-clause-empty g c l =
    let v = c.idle-sets.result in
    let h = c.idle-sets.ensures.none (g.B.Bank.rows v.bank).places in
    idle_calm _ _ 0 _ _ _ _ (idle_steady _ h) (idle_low _ h)

pub invariant_of-scorer : goal.invariant_of-scorer
invariant_of-scorer g c = fields_none 0 0 c.new-window.result (omega arith) (omega arith) (λ l. omega arith) c.new-window.ensures.empty

pub returns-clause-lists : goal.returns-clause-lists
returns-clause-lists g c few s =
    let P = (g.B.Bank.rows c.args.bank).places in
    let e = alike_places g.B.Bank.rows c.args.bank c.new-sets.result few (c.new-sets.ensures.apt s) in
    c.open.ensures.opened.becomes (alike_steady _ P e s) ∙ ap calm (union_alike (g.C.ScoreCombiner.taken c.args.combiner) (g.C.ScoreCombiner.told c.args.combiner) _ P e)

pub returns-clause-reads : goal.returns-clause-reads
returns-clause-reads g c few s k =
    let v = c.new-sets.result in
    let P = (g.B.Bank.rows c.args.bank).places in
    let Q = left g.B.Bank.rows v in
    let e = alike_places g.B.Bank.rows c.args.bank v few (c.new-sets.ensures.apt s) in
    let z = alike_steady Q P e s in
    ap (λ X. at X k) (c.open.ensures.anew.list z) ∙ at_passed_sets (reach c.open.result) Q k ∙
    ap (λ x. calm (from (reach x) (at Q k).pairs)) (c.open.ensures.anew.lowest z ∙ lowest_alike Q P e) ∙
    ap (λ (x : Meaning). calm (from (reach (lowest_of P)) x.pairs)) (e k)
