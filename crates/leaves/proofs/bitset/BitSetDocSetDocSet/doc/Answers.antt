use Rattle.leaves.proofs.BitSets.{bits_told}
use Rattle.leaves.proofs.bitset.BitSetDocSetDocSet.doc.Goals as goal

pub returns : goal.returns
returns c =
    let s = c.args.self.now in bits_told s.docs.now s.max_value s.small s.clear s.doc s.current
