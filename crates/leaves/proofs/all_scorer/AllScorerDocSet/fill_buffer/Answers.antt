use Rattle.std.proofs.Common.{◌+◌, ℕ, List, ◌++◌, drop, ap, ◌∙◌, arith, length-take-le}
use Rattle.leaves.specs.Ranges.{run}
use Rattle.leaves.proofs.Alls.{all_filled}
use Rattle.leaves.proofs.all_scorer.AllScorerDocSet.fill_buffer.Goals as goal

pub returns : goal.returns
returns c =
    let first : ℕ = c.args.self.now.doc in
    let len = length-take-le c.min-len.result c.args.buffer.now (omega arith) in
    all_filled _ _ _ _ _ c.min-len.ensures
    (ap (λ (l : List ℕ). l ++ drop c.min-len.result c.args.buffer.now)
    (c.write_run.ensures ∙ ap (λ (n : ℕ). run first (first + n)) len))
