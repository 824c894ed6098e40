use Rattle.std.proofs.Common.{◌≡◌, subst, rules}
use Rattle.docset.specs.Calls.{Told}
use Rattle.threshold.specs.State.{doc_of}
use Rattle.threshold.proofs.States.{told}
use Rattle.threshold.proofs.disjunction.calls.DisjunctionDocSet.doc.Goals as goal

pub returns-clause-told : goal.returns-clause-told
returns-clause-told g c =
    let q : doc_of c.args.self.now ≡ c.map_or.result = search rules in
    subst (Told _) q (told _ _ _ _ _ _ _ _ c.args.self.now.an_id)
