use Rattle.live.proofs.Keeps.{idle_at}
use Rattle.live.proofs.live.Live.idle.Goals as goal

pub returns-clause-none : goal.returns-clause-none
returns-clause-none g c = idle_at 32
