use Rattle.std.proofs.Common.{ℕ, ◌+◌, drop, length, Some, sym, ap, ◌∙◌, arith, length-drop}
use Rattle.std.proofs.lemmas.List.{drop-drop}
use Rattle.std.specs.Slice.Iter.{windows_rest, windows_size}
use Rattle.leaves.proofs.Checks.{Neighbours, neighbours, flat_from, flat_start, flat_found, flat_more, flat_none}
use Rattle.leaves.proofs.vec_docset.find_flat.Goals as goal

pub loop-place-init : goal.loop-place-init
loop-place-init c =
    let xs = c.args.doc_ids.now in
    let s = ap (λ x. x.iter) c.into_iter-place-iterator.ensures.into_iter_gives ∙ c.enumerate-place-items.ensures.source in
    let n = ap (λ x. x.count) c.into_iter-place-iterator.ensures.into_iter_gives ∙ c.enumerate-place-items.ensures.count in
    record {
      size = ap windows_size s ∙ c.windows.ensures.size;
      rest = ap windows_rest s ∙ c.windows.ensures.rest ∙ sym (ap (λ (k : ℕ). drop k xs) n);
      same = flat_start xs ∙ sym (ap (flat_from xs) n);
    }

pub returns-then-pair : goal.returns-then-pair
returns-then-pair c =
    let xs = c.args.doc_ids.now in
    let i : ℕ = c.loop-place.place-iterator.count in
    let v = c.loop-place.invariant in
    let e = c.in-Some.ensures.steps in
    let n : Neighbours xs c.in-Some.pair.now i = neighbours _ _ _ _ _ v.size v.rest e.0.1.0 e.0.1.1 in
    ap (λ (k : ℕ). Some (k + 1)) e.1 ∙ sym (v.same ∙ flat_found xs i n.inside (omega arith))

pub loop-place-preserved : goal.loop-place-preserved
loop-place-preserved c =
    let xs = c.args.doc_ids.now in
    let i : ℕ = c.loop-place.place-iterator.count in
    let v = c.loop-place.invariant in
    let e = c.in-Some.ensures.steps in
    let n : Neighbours xs c.in-Some.pair.now i = neighbours _ _ _ _ _ v.size v.rest e.0.1.0 e.0.1.1 in
    record {
      size = e.0.0 ∙ v.size;
      rest = e.0.1.2 ∙ ap (drop 1) v.rest ∙ drop-drop 1 i xs ∙ sym (ap (λ (k : ℕ). drop k xs) e.2);
      same = v.same ∙ flat_more xs i n.inside (omega arith) ∙ sym (ap (flat_from xs) e.2);
    }

pub returns : goal.returns
returns c =
    let xs = c.args.doc_ids.now in
    let i : ℕ = c.loop-place.place-iterator.count in
    let v = c.loop-place.invariant in
    let e = c.in-None.ensures.steps in
    sym (v.same ∙ flat_none xs i (omega (arith, e.0.1.0, v.size, ap length v.rest, length-drop i xs)))
