use Rattle.std.proofs.Common.{add-one}
use Rattle.leaves.proofs.BitSets.{bits_moved, bits_stay, next_stands}
use Rattle.leaves.proofs.bitset.BitSetDocSetDocSet.advance.Goals as goal
use Rattle.leaves.proofs.bitset.BitSetDocSetDocSet.advance.Goals.{then-self-ne-TERMINATED, else-self-ne-TERMINATED}

pub returns : goal.returns
returns c =
    let s = c.args.self.now in
    elim c.if-self-ne-TERMINATED.branch [
      | then-self-ne-TERMINATED w ↦
          rw w.self-is
          (bits_moved s.docs.now s.max_value s.small s.clear s.doc _ s.current w.if-self-ne-TERMINATED.true
          (rw add-one at w.doc_from-self.ensures))
      | else-self-ne-TERMINATED w ↦
          rw w.self-is (bits_stay s.docs.now s.max_value s.small s.clear s.doc w.if-self-ne-TERMINATED.false)
    ]

pub invariant_of-self : goal.invariant_of-self
invariant_of-self c =
    let s = c.args.self.now in
    record {
      small = s.small;
      few = s.few;
      clear = s.clear;
      counted = s.counted;
      current = next_stands s.docs.now s.max_value s.small s.clear _ _ c.doc_from-self.ensures;
    }
