use Rattle.std.proofs.Common.{rules}
use Rattle.live.proofs.Keeps.{flags_apt}
use Rattle.live.proofs.live.Live.new.Goals as goal

pub returns-clause-apt : goal.returns-clause-apt
returns-clause-apt g c = flags_apt _ _ _ _ c.from_fn-live.ensures.items (λ i b q h. search rules)
