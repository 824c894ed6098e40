use Rattle.std.proofs.Common.{◌≡◌, get_or, arith}
use Rattle.std.proofs.lemmas.Grind.{common_steps}
use Rattle.std.proofs.lemmas.Option.{gets}
use Rattle.leaves.proofs.Leaves.{slice_told}
use Rattle.leaves.proofs.vec_docset.VecDocSetDocSet.doc.Goals as goal

pub returns : goal.returns
returns c =
    let s = c.args.self.now in
    let e : c.unwrap_or.result ≡ get_or s.doc_ids.now s.cursor 2147483647 = grind (arith, common_steps, gets) in
    slice_told s.doc_ids.now s.cursor _ s.small s.rises e
