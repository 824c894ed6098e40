use Rattle.std.proofs.Common.{◌≡◌, drop}
use Rattle.std.specs.Slice.Iter.{windows_rest, windows_size}
use Rattle.leaves.specs.Lists.{first_flat}
use Rattle.leaves.proofs.Checks.{flat_from}
use Rattle.leaves.proofs.vec_docset.find_flat.Given as goal

abbrev pub invariant-loop-place : goal.invariant-loop-place
invariant-loop-place l =
    record {
      size : windows_size l.place-iterator.iter ≡ 2;
      rest : windows_rest l.place-iterator.iter ≡ drop l.place-iterator.count l.doc_ids;
      same : first_flat l.doc_ids ≡ flat_from l.doc_ids l.place-iterator.count;
    }
