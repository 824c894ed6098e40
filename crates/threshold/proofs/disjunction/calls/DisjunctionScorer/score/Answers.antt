use Rattle.std.proofs.Common.{◌≡◌, subst, rules}
use Rattle.docset.specs.Calls.{Scored}
use Rattle.threshold.specs.State.{doc_of, score_of}
use Rattle.threshold.proofs.States.{scored}
use Rattle.threshold.proofs.disjunction.calls.DisjunctionScorer.score.Goals as goal

pub returns : goal.returns
returns g c =
    let u = c.args.self.now in
    let q : score_of u ≡ c.map_or.result = search rules in
    subst (Scored _ _) q (scored _ _ _ (doc_of u) (score_of u) _ _ _ u.an_id u.scoreless)
