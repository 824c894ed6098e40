use Rattle.std.proofs.Common.{◌≡◌, ℕ, ◌^◌, ◌<◌, length, get_or, sym, ap, ◌∙◌, arith, rules}
use lib.Count.{ones}
use Rattle.std.specs.List.{sum_by}
use Rattle.std.proofs.lemmas.Slice.{between_to_end}
use Rattle.window.proofs.Held.{count_all}
use Rattle.window.proofs.window.Window.len.Goals as goal

pub returns : goal.returns
returns c =
    let w = c.args.self.now in
    let n : length w.words ≡ 64 = search rules in
    let fits : (k : ℕ) → get_or w.words k 0 < 2 ^ 64 = λ k. search rules in
    c.count_set.ensures ∙ ap (sum_by ones) (between_to_end w.words w.bucket 64 (omega arith)) ∙ sym (count_all w.words w.tallies w.bucket n w.inside w.behind fits)
