use Rattle.refill.proofs.Moves.{scored_end, scored_on}
use Rattle.union.proofs.buffered_union.calls.BufferedUnionScorerScorer.score.Goals as goal

pub returns-then-self-eq-TERMINATED : goal.returns-then-self-eq-TERMINATED
returns-then-self-eq-TERMINATED g c = scored_end _ _ _ _ _ _ _ _ c.if-self-eq-TERMINATED.true

pub returns : goal.returns
returns g c = scored_on _ _ _ _ _ _ _ _ c.args.self.now.an_id c.if-self-eq-TERMINATED.false
