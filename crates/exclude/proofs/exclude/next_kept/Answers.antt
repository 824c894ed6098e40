use Rattle.exclude.proofs.Excludes.{passed_one, skipped_kept}
use Rattle.exclude.proofs.exclude.next_kept.Goals as goal

pub returns-else-contains : goal.returns-else-contains
returns-else-contains g c = skipped_kept _ _ _ _ _ _ _ c.loop-candidate.invariant c.if-contains.ensures

pub loop-candidate-preserved : goal.loop-candidate-preserved
loop-candidate-preserved g c =
    passed_one _ _ _ _ _ _ _ _ _ c.loop-candidate.invariant c.loop-candidate-test.true c.if-contains.ensures c.advance-candidate.ensures
