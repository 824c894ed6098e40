use Rattle.std.proofs.Common.{sym, arith}
use Rattle.leaves.proofs.Checks.{kept_small, kept_rises}
use Rattle.leaves.proofs.vec_docset.VecDocSet.new.Goals as goal

pub invariant_of-result-in-None : goal.invariant_of-result-in-None
invariant_of-result-in-None c =
    let e = sym c.in-None.ensures in
    record { small = kept_small c.args.doc_ids.now e; rises = kept_rises c.args.doc_ids.now e; within = omega arith }
