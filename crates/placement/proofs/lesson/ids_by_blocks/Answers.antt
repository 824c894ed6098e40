use Rattle.std.proofs.Common.{◌+◌, ◌++◌, take, vec_items, sym, refl, ap, ◌∙◌, subst, arith, rules}
use native.Mathlib.Nat.{sub-zero}
use Rattle.placement.proofs.Blocks.{Sofar, starts, goes_on, ends_short}
use Rattle.placement.proofs.lesson.ids_by_blocks.Goals as goal

pub loop-turn-init : goal.loop-turn-init
loop-turn-init g c = (
  refl,
  λ s.
      subst (λ xs. Sofar (g.S.DocSet.meaning c.args.set) (g.S.DocSet.meaning c.args.set) xs 0) (sym c.new-ids.ensures.items)
      (starts (g.S.DocSet.meaning c.args.set) c.doc-doc.result c.doc-doc.ensures s),
)

pub returns-then-filled-lt-COLLECT_BLOCK_BUFFER_LEN : goal.returns-then-filled-lt-COLLECT_BLOCK_BUFFER_LEN
returns-then-filled-lt-COLLECT_BLOCK_BUFFER_LEN g c s =
    c.in_ok-extend_from_slice.ensures.items ∙
    ap (λ k. vec_items c.loop-turn.ids ++ take k c.fill_buffer-filled.new.buffer) (sub-zero c.fill_buffer-filled.result) ∙
    ends_short (g.S.DocSet.meaning c.args.set) (g.S.DocSet.meaning c.loop-turn.set) (g.S.DocSet.meaning c.fill_buffer-filled.new.self)
    c.loop-turn.block c.fill_buffer-filled.new.buffer (vec_items c.loop-turn.ids) c.fill_buffer-filled.result c.loop-turn._turn
    (c.loop-turn.invariant.1 s) c.fill_buffer-filled.ensures (omega arith)

pub loop-turn-preserved : goal.loop-turn-preserved
loop-turn-preserved g c = (
  search rules,
  λ s.
      let read =
      c.in_ok-extend_from_slice.ensures.items ∙
      ap (λ k. vec_items c.loop-turn.ids ++ take k c.fill_buffer-filled.new.buffer) (sub-zero c.fill_buffer-filled.result) in
      subst
      (λ xs. Sofar (g.S.DocSet.meaning c.args.set) (g.S.DocSet.meaning c.fill_buffer-filled.new.self) xs (c.loop-turn._turn + 1))
      (sym {a = vec_items c.extend_from_slice.new.self} read)
      (goes_on (g.S.DocSet.meaning c.args.set) (g.S.DocSet.meaning c.loop-turn.set) (g.S.DocSet.meaning c.fill_buffer-filled.new.self)
      c.loop-turn.block c.fill_buffer-filled.new.buffer (vec_items c.loop-turn.ids) c.fill_buffer-filled.result c.loop-turn._turn
      (c.loop-turn.invariant.1 s) c.fill_buffer-filled.ensures (omega arith)),
)
