use Rattle.std.proofs.Common.{arith}
use Rattle.leaves.proofs.BitSets.{bits_kept, bits_ended, bits_sought, next_stands, next_cut}
use Rattle.leaves.proofs.bitset.BitSetDocSetDocSet.seek.Goals as goal

pub returns-then-target-self : goal.returns-then-target-self
returns-then-target-self c =
    let s = c.args.self.now in
    bits_kept s.docs.now s.max_value s.small s.clear c.args.target s.doc c.if-target-self.true s.current

pub returns-then-target-self-2 : goal.returns-then-target-self-2
returns-then-target-self-2 c =
    let s = c.args.self.now in
    bits_ended s.docs.now s.max_value s.small s.clear c.args.target s.doc (omega (arith, c.if-target-self.false)) c.if-target-self-2.true

pub invariant_of-self-2 : goal.invariant_of-self-2
invariant_of-self-2 c =
    let s = c.args.self.now in
    record { small = s.small; few = s.few; clear = s.clear; counted = s.counted; current = next_stands s.docs.now s.max_value s.small s.clear _ _ c.doc_from-self.ensures }

pub returns : goal.returns
returns c =
    let s = c.args.self.now in
    bits_sought s.docs.now s.max_value s.small s.clear c.args.target s.doc _ (omega (arith, c.if-target-self.false))
    (next_stands s.docs.now s.max_value s.small s.clear _ _ c.doc_from-self.ensures)
    (next_cut s.docs.now s.max_value s.small s.clear _ _ c.doc_from-self.ensures)
