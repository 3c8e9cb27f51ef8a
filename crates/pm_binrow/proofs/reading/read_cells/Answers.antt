use Rattle.std.proofs.Common.{◌≡◌, ◌+◌, length, drop, sym, ap, ◌∙◌, arith}
use Rattle.std.proofs.lemmas.List.{drop_more, drop_all, nil_from_length}
use Rattle.std.proofs.lemmas.Bool.{eqb-true, eqb-false}
use Rattle.std.proofs.lemmas.Result.{err_from_is_err_and}
use Rattle.pm_values.specs.declared.column.ColType.TheVariants.{Boolean}
use Rattle.pm_binrow.proofs.Cells.{fails_all, cells_more, cells_fail, cells_end, cells_left}
use Rattle.pm_binrow.proofs.reading.read_cells.Goals as goal

pub returns-in_err-value : goal.returns-in_err-value
returns-in_err-value c =
    let p = err_from_is_err_and c.from_residual-in_err-value.result c.from_residual-in_err-value.ensures.1 in
    let split = rw c.in_ok-slot.ensures.ok_part at c.split_first_chunk.ensures.cases in
    let next = drop_more c.args.types.now c.loop-i.i Boolean c.loop-i-test.true in
    rw (p.1, p.2) (fails_all c.in_err-value.field-0.0 _ _ c.in_err-value.ensures
    (λ none. cells_fail c.args.size c.args.nulls.now c.loop-i.values.items (drop c.loop-i.i c.args.types.now) _ (8 + c.loop-i.i) _ _
    c.loop-i.places.now c.in_ok-slot.slot.now c.loop-i.left.now next split.0 c.loop-i.invariant.read (rw c.is_marked.ensures at none)))

pub loop-i-preserved : goal.loop-i-preserved
loop-i-preserved c =
    let split = rw c.in_ok-slot.ensures.ok_part at c.split_first_chunk.ensures.cases in
    let next = drop_more c.args.types.now c.loop-i.i Boolean c.loop-i-test.true in
    let later : 8 + (c.loop-i.i + 1) ≡ 8 + c.loop-i.i + 1 = omega arith in
    record {
      room = omega (arith, split.2, c.loop-i.invariant.room);
      read = rw c.in_ok-push.ensures.items
          (cells_more c.args.size c.args.nulls.now c.loop-i.values.items (drop c.loop-i.i c.args.types.now) _ (8 + c.loop-i.i) (8 + (c.loop-i.i + 1)) _ _
          c.loop-i.places.now c.in_ok-slot.slot.now c.in_ok-slot.places_after.now c.loop-i.left.now c.in_ok-value.left_after.now c.in_ok-value.value
          next later split.0 split.1 (rw c.is_marked.ensures at c.in_ok-value.ensures) c.loop-i.invariant.read);
    }

pub returns-then-is_empty : goal.returns-then-is_empty
returns-then-is_empty c =
    cells_end c.args.size c.args.nulls.now c.loop-i.values.items (drop c.loop-i.i c.args.types.now) _ (8 + c.loop-i.i) c.loop-i.places.now c.loop-i.left.now
    (drop_all c.loop-i.i c.args.types.now c.loop-i-test.false)
    (nil_from_length c.loop-i.left.now (eqb-true (length c.loop-i.left.now) 0 (sym c.is_empty.ensures ∙ c.if-is_empty.true))) c.loop-i.invariant.read

pub returns-else-is_empty : goal.returns-else-is_empty
returns-else-is_empty c =
    cells_left c.args.size c.args.nulls.now c.loop-i.values.items (drop c.loop-i.i c.args.types.now) _ (8 + c.loop-i.i) c.loop-i.places.now c.loop-i.left.now
    (drop_all c.loop-i.i c.args.types.now c.loop-i-test.false)
    (λ none. eqb-false (length c.loop-i.left.now) 0 (sym c.is_empty.ensures ∙ c.if-is_empty.false) (ap length none)) c.loop-i.invariant.read
