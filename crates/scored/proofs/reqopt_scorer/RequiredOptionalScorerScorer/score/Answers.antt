use Rattle.std.proofs.Common.{sym}
use Rattle.combiner.specs.Scores.{combined}
use Rattle.scored.proofs.Optionals.{score_made}
use Rattle.scored.proofs.reqopt_scorer.RequiredOptionalScorerScorer.score.Goals as goal

pub returns : goal.returns
returns g c =
    let usual = g.met.C.ScoreCombiner.usual _ c.default.ensures in
    score_made (combined (g.C.ScoreCombiner.taken g.C.ScoreCombiner.plain) (g.C.ScoreCombiner.told g.C.ScoreCombiner.plain))
    c.args.self.now.score_cache _ _ _ _ _ _ _ _ c.in_default.is c.doc-doc.ensures c.if-doc-eq-TERMINATED.false
    c.score-first.ensures c.score_of-second.ensures (rw (sym usual) c.combine_two-score.ensures)
