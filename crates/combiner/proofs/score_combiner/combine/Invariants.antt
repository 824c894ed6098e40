use Rattle.std.proofs.Common.{◌≡◌, take, fold}
use Rattle.combiner.specs.Scores.{start}
use Rattle.combiner.proofs.score_combiner.combine.Given as goal

abbrev pub invariant-loop-score : goal.invariant-loop-score
invariant-loop-score g l = l.tally ≡ fold (g.C.ScoreCombiner.taken l.c) start (take l.score-index l.scores)
