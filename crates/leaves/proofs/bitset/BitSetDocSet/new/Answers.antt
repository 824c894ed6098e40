use Rattle.std.proofs.Common.{sym, refl, ◌∙◌, arith}
use Rattle.leaves.proofs.Ranges.{between_end}
use Rattle.leaves.proofs.BitSets.{kept_words, kept_clear, next_stands, next_cut}
use Rattle.leaves.proofs.bitset.BitSetDocSet.new.Goals as goal

pub invariant_of-result-in-None : goal.invariant_of-result-in-None
invariant_of-result-in-None c =
    let k = kept_words c.args.docs.now c.args.max_value (sym c.in-None.ensures) in
    let clear = kept_clear c.args.docs.now c.args.max_value k.past in
    record {
      small = k.small;
      few = omega (arith, k.small, k.sized);
      clear = clear;
      counted = c.count_ones-len.ensures;
      current = next_stands c.args.docs.now c.args.max_value k.small clear _ _ c.doc_from-doc.ensures;
    }

pub returns-in-Some : goal.returns-in-Some
returns-in-Some c =
    record {
      answer = c.in-Some.ensures;
      over = refl;
      fresh = between_end _ 2147483647 0 (omega arith) ∙ sym (between_end _ 0 0 (omega arith));
    }

pub returns-in-None : goal.returns-in-None
returns-in-None c =
    let k = kept_words c.args.docs.now c.args.max_value (sym c.in-None.ensures) in
    record {
      answer = c.in-None.ensures;
      over = refl;
      fresh = sym (next_cut c.args.docs.now c.args.max_value k.small (kept_clear c.args.docs.now c.args.max_value k.past) _ _ c.doc_from-doc.ensures);
    }
