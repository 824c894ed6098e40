use Rattle.leaves.proofs.BitSets.{bits_scored, bits_scored_end}
use Rattle.leaves.proofs.bitset.BitSetDocSetScorer.score.Goals as goal

pub returns-then-self-ne-TERMINATED : goal.returns-then-self-ne-TERMINATED
returns-then-self-ne-TERMINATED c =
    let s = c.args.self.now in
    bits_scored s.docs.now s.max_value s.small s.clear s.doc s.current c.if-self-ne-TERMINATED.true

pub returns-else-self-ne-TERMINATED : goal.returns-else-self-ne-TERMINATED
returns-else-self-ne-TERMINATED c =
    let s = c.args.self.now in
    bits_scored_end s.docs.now s.max_value s.small s.clear s.doc c.if-self-ne-TERMINATED.false
