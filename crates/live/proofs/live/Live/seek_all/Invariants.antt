use Rattle.live.proofs.Keeps.{Sending}
use Rattle.live.proofs.live.Live.seek_all.Given as goal

abbrev pub invariant-loop-place : goal.invariant-loop-place
invariant-loop-place g l = Sending l.target l.place g.B.Bank.rows l.initial.self l.self
