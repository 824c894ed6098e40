use Rattle.std.proofs.Common.{get_or, rules, refl, ◌∙◌}
use Rattle.std.proofs.lemmas.Iterator.{YieldsList-from_range, YieldsList-from_map}
use Rattle.live.proofs.Numbers.{greatest_asked}
use Rattle.live.proofs.live.Live.greatest_cost.Goals as goal

pub returns : goal.returns
returns g c =
    let xs = (g.B.Bank.rows c.args.self.now.bank).prices in
    c.unwrap_or.ensures ∙ greatest_asked xs _ _ c.max.ensures.ran
    (YieldsList-from_map _ (λ k. get_or xs k 0) (YieldsList-from_range 0 32 32 c.map.ensures.source refl) c.map.ensures.closure (λ x r q k. search rules))
