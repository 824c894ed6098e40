use Rattle.std.proofs.Common.{refl}
use Rattle.docset.proofs.Probes.{always}
use Rattle.leaves.proofs.bitset.BitSetDocSetDocSet.seek_danger.Goals as goal

pub returns : goal.returns
returns c = always _ _ _ _ refl c.probe_by_seek.ensures.probes
