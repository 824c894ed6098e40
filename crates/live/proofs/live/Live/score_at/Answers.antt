use Rattle.std.proofs.Common.{sym, refl, ◌∙◌}
use Rattle.live.proofs.Keeps.{scores_live, scores_none}
use Rattle.live.proofs.live.Live.score_at.Goals as goal

pub returns-then-is_live : goal.returns-then-is_live
returns-then-is_live g c =
    let a = c.score_at.ensures in
    scores_live g.B.Bank.rows _ _ c.args.place _ (sym c.is_live.ensures ∙ c.if-is_live.true) refl a.tells a.others

pub returns-else-is_live : goal.returns-else-is_live
returns-else-is_live g c = scores_none g.B.Bank.rows c.args.self.now c.args.place (sym c.is_live.ensures ∙ c.if-is_live.false)
