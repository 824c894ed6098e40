use Rattle.std.proofs.Common.{sym, refl, ◌∙◌}
use Rattle.live.proofs.Keeps.{advances_live, advances_ended, advances_none}
use Rattle.live.proofs.live.Live.advance_at.Goals as goal

pub returns-then-not-is_live : goal.returns-then-not-is_live
returns-then-not-is_live g c = advances_none g.B.Bank.rows c.args.self.now c.args.place (sym c.is_live.ensures ∙ c.if-not-is_live.true)

pub returns-then-doc-eq-TERMINATED : goal.returns-then-doc-eq-TERMINATED
returns-then-doc-eq-TERMINATED g c =
    let a = c.advance_at-doc.ensures in
    advances_ended g.B.Bank.rows _ _ c.args.place _ (sym c.is_live.ensures ∙ c.if-not-is_live.false) refl a.moves a.others c.if-doc-eq-TERMINATED.true

pub returns-else-doc-eq-TERMINATED : goal.returns-else-doc-eq-TERMINATED
returns-else-doc-eq-TERMINATED g c =
    let a = c.advance_at-doc.ensures in
    advances_live g.B.Bank.rows _ _ c.args.place _ (sym c.is_live.ensures ∙ c.if-not-is_live.false) refl a.moves a.others c.if-doc-eq-TERMINATED.false
