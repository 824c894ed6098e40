use Rattle.std.proofs.Common.{sym, refl, ◌∙◌}
use Rattle.live.proofs.Keeps.{sent_live, sent_ended}
use Rattle.live.proofs.live.Live.send.Goals as goal

pub returns-then-seek_at-eq-TERMINATED : goal.returns-then-seek_at-eq-TERMINATED
returns-then-seek_at-eq-TERMINATED g c =
    let a = c.seek_at.ensures in
    sent_ended _ g.B.Bank.rows _ _ c.args.place _ _ c.doc_at.ensures.told (sym c.is_live.ensures ∙ c.if-not-is_live.false) refl a.moves a.others c.if-seek_at-eq-TERMINATED.true

pub returns-else-seek_at-eq-TERMINATED : goal.returns-else-seek_at-eq-TERMINATED
returns-else-seek_at-eq-TERMINATED g c =
    let a = c.seek_at.ensures in
    sent_live _ g.B.Bank.rows _ _ c.args.place _ _ c.doc_at.ensures.told (sym c.is_live.ensures ∙ c.if-not-is_live.false) refl a.moves a.others c.if-seek_at-eq-TERMINATED.false
