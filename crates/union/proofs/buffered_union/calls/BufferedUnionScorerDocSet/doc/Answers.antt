use Rattle.refill.proofs.Moves.{told}
use Rattle.union.proofs.buffered_union.calls.BufferedUnionScorerDocSet.doc.Goals as goal

pub returns : goal.returns
returns g c = told _ _ _ _ _ _ _ _ c.args.self.now.an_id
