use Rattle.std.proofs.Common.{◌≡◌, get_or, arith, add-one}
use Rattle.std.proofs.lemmas.Grind.{common_steps}
use Rattle.std.proofs.lemmas.Option.{gets}
use Rattle.leaves.proofs.Leaves.{slice_moved, slice_stays, slice_told}
use Rattle.leaves.proofs.vec_docset.VecDocSetDocSet.advance.Goals as goal

pub returns-then-self : goal.returns-then-self
returns-then-self c = rw add-one (slice_moved _ _ _ c.if-self.true (rw add-one at c.doc.ensures))

pub returns-else-self : goal.returns-else-self
returns-else-self c =
    let s = c.args.self.now in
    let h = c.if-self.false in
    let e : 2147483647 ≡ get_or s.doc_ids.now s.cursor 2147483647 = grind (arith, common_steps, gets) in
    slice_stays s.doc_ids.now s.cursor _ h (slice_told s.doc_ids.now s.cursor _ s.small s.rises e)
