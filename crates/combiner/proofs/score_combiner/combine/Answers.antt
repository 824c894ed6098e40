use Rattle.std.proofs.Common.{◌≡◌, sym, ap, ◌∙◌}
use Rattle.std.proofs.lemmas.List.{take_all}
use Rattle.combiner.specs.Scores.{start, combined}
use Rattle.combiner.proofs.Combined.{folded_alike}
use Rattle.combiner.proofs.score_combiner.combine.Goals as goal

pub returns : goal.returns
returns g c =
    let taken = g.C.ScoreCombiner.taken c.args.c.now in
    let told = g.C.ScoreCombiner.told c.args.c.now in
    let all = take_all c.loop-score.score-index c.args.scores.now c.loop-score-test.false in
    let is : c.tell.result ≡ combined taken told c.args.scores.now = cc in
    record {
      value = is;
      unread = λ none others e. is ∙ ap told (folded_alike taken (λ t x y. g.met.C.ScoreCombiner.unread c.args.c.now t x y none) start c.args.scores.now others (sym e));
    }
