use Rattle.std.proofs.Common.{slice_get, ℕ, List, ◌≡◌, suc, ◌+◌, ◌*◌, get_or, sym, ap, ◌∙◌, arith}
use Rattle.leaves.specs.Bits.{bits_from, bit_of}
use Rattle.leaves.proofs.Ranges.{some_between}
use Rattle.leaves.proofs.Words.{word_passed, word_found, words_end}
use Rattle.leaves.proofs.bitset.first_bit.Goals as goal

pub overflow_add-result : goal.overflow_add-result
overflow_add-result c =
    let f = some_between (bit_of (get_or c.args.words.now c.loop-place.place 0)) c.loop-place.bit 64 c.in-Some.lowest (sym c.in-Some.ensures) in
    omega (arith, f.high)

pub returns-in-Some : goal.returns-in-Some
returns-in-Some c =
    sym
    (ap (λ (l : List ℕ). slice_get l 0) c.loop-place.invariant.1 ∙
    word_found c.args.words.now c.loop-place.place c.loop-place.bit c.in-Some.lowest c.loop-place-test.true c.loop-place.invariant.0 (sym c.in-Some.ensures))

pub loop-place-preserved : goal.loop-place-preserved
loop-place-preserved c =
    let e : suc c.loop-place.place * 64 ≡ (c.loop-place.place + 1) * 64 + 0 = omega arith in (
      omega arith,
      c.loop-place.invariant.1 ∙
          word_passed c.args.words.now c.loop-place.place c.loop-place.bit c.loop-place.invariant.0 (sym c.in_default.ensures) ∙
          ap (bits_from c.args.words.now) e,
    )

pub returns : goal.returns
returns c =
    sym (ap (λ (l : List ℕ). slice_get l 0) c.loop-place.invariant.1 ∙ words_end c.args.words.now c.loop-place.place c.loop-place.bit c.loop-place-test.false)
