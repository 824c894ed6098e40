use Rattle.std.proofs.Common.{inr, add-one, arith}
use Rattle.docset.proofs.Walking.{fill_steps, fill_ends, fill_full}
use Rattle.docset.proofs.docset.DocSet.fill_by_advance.Goals as goal

pub returns-then-doc-eq-TERMINATED-2 : goal.returns-then-doc-eq-TERMINATED-2
returns-then-doc-eq-TERMINATED-2 g c =
    rw add-one
    (fill_ends _ _ _ _ _ _
    (fill_steps _ _ _ _ _ _ c.told-buffer c.loop-place.invariant.0 c.loop-place-test.true c.loop-place.invariant.1 _ _ c.advance-doc.ensures)
    (inr c.if-doc-eq-TERMINATED-2.true))

pub loop-place-preserved : goal.loop-place-preserved
loop-place-preserved g c =
    rw add-one (
      fill_steps _ _ _ _ _ _ c.told-buffer c.loop-place.invariant.0 c.loop-place-test.true c.loop-place.invariant.1 _ _ c.advance-doc.ensures,
      c.if-doc-eq-TERMINATED-2.false,
    )

pub returns : goal.returns
returns g c = fill_full _ _ _ _ _ _ c.loop-place.invariant.0 (omega (arith, c.loop-place.auto.place-end, c.loop-place-test.false))
