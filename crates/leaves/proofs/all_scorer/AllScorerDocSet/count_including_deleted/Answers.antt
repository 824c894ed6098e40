use Rattle.leaves.proofs.Alls.{all_counted}
use Rattle.leaves.proofs.all_scorer.AllScorerDocSet.count_including_deleted.Goals as goal

pub returns : goal.returns
returns c = all_counted _ _
