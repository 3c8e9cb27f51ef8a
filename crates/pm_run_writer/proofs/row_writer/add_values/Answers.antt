use Rattle.std.proofs.Common.{◌≡◌, ◌<◌, length, ◌∙◌, arith}
use Rattle.pm_avro_data.proofs.Facts.{added_none}
use Rattle.pm_model_history.specs.Merge.{value_at}
use Rattle.pm_row_slots.specs.Slot.{placed_row}
use Rattle.pm_run_writer.proofs.LoopLemmas.{have_end, have_next, values_end, values_next}
use Rattle.pm_run_writer.proofs.SeenLemmas.{value_within}
use Rattle.pm_run_writer.proofs.row_writer.add_values.Goals as goal

pub loop-index-init : goal.loop-index-init
loop-index-init c = record { added = added_none c.args.out.now.items; typed = tt }

pub loop-index-preserved : goal.loop-index-preserved
loop-index-preserved c =
    let fields = c.args.fields.now in
    let row = (placed_row c.args.row).row in
    let i = c.loop-index.index in
    let x = c.index-fields-index.result in
    let value = value_at row i in
    let many : length fields ≡ length row = c.if-fields-value_count.false ∙ c.value_count.ensures in
    let first : i < length fields = c.loop-index-test.true in
    let second : i < length row = omega arith in
    let x_is = c.index-fields-index.is in
    let value_is = value_within row i second in
    record {
      added = values_next fields row i x value first second x_is value_is c.args.out.now.items c.loop-index.out.items c.add_at.new.out.items c.loop-index.invariant.added many c.in_ok-add_at.ensures.added;
      typed = have_next fields row i x value first second x_is value_is c.loop-index.invariant.typed many c.in_ok-add_at.ensures.typed;
    }

pub returns-clause-added : goal.returns-clause-added
returns-clause-added c =
    values_end c.args.fields.now (placed_row c.args.row).row c.loop-index.index c.args.out.now.items c.loop-index.out.items (omega arith) (c.if-fields-value_count.false ∙ c.value_count.ensures)
    c.loop-index.invariant.added

pub returns-clause-typed : goal.returns-clause-typed
returns-clause-typed c =
    have_end c.args.fields.now (placed_row c.args.row).row c.loop-index.index (omega arith) (c.if-fields-value_count.false ∙ c.value_count.ensures) c.loop-index.invariant.typed
