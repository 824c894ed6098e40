use Rattle.std.proofs.Common.{sym, ◌∙◌}
use Rattle.live.proofs.Keeps.{told_live, told_none}
use Rattle.live.proofs.live.Live.doc_at.Goals as goal

pub returns-then-is_live-clause-told : goal.returns-then-is_live-clause-told
returns-then-is_live-clause-told g c = told_live _ _ c.args.place _ (sym c.is_live.ensures ∙ c.if-is_live.true) c.doc_at.ensures

pub returns-else-is_live-clause-told : goal.returns-else-is_live-clause-told
returns-else-is_live-clause-told g c = told_none _ _ c.args.place (sym c.is_live.ensures ∙ c.if-is_live.false)
