use Rattle.std.proofs.Common.{◌≡◌, ◌<◌, ℕ, length, get_or, sym, arith}
use Rattle.std.proofs.lemmas.List.{get_or-map, length-map}
use Rattle.pm_avro_data.proofs.Facts.{added_none}
use Rattle.pm_model_history.specs.Merge.{key_of, value_at}
use Rattle.pm_row_slots.specs.Slot.{placed_row}
use Rattle.pm_run_writer.proofs.LoopLemmas.{have_end, have_next, values_end, values_next}
use Rattle.pm_run_writer.proofs.row_writer.add_keys.Goals as goal

pub loop-index-init : goal.loop-index-init
loop-index-init c = record { added = added_none c.args.out.now.items; typed = tt }

pub loop-index-preserved : goal.loop-index-preserved
loop-index-preserved c =
    let fields = c.args.fields.now in
    let places = c.args.places.now in
    let row = (placed_row c.args.row).row in
    let key = key_of places row in
    let i = c.loop-index.index in
    let x = c.index-fields-index.result in
    let value = value_at row (get_or places i 0) in
    let long = length-map places (λ (index : ℕ). value_at row index) in
    let same : length fields ≡ length places = c.if-fields-places.false in
    let many : length fields ≡ length key = omega arith in
    let first : i < length fields = c.loop-index-test.true in
    let place : i < length places = omega arith in
    let second : i < length key = omega arith in
    let x_is = c.index-fields-index.is in
    let value_is : value ≡ get_or key i value = sym (get_or-map (λ (index : ℕ). value_at row index) places i 0 value place) in
    record {
      added = values_next fields key i x value first second x_is value_is c.args.out.now.items c.loop-index.out.items c.add_at.new.out.items c.loop-index.invariant.added many c.in_ok-add_at.ensures.added;
      typed = have_next fields key i x value first second x_is value_is c.loop-index.invariant.typed many c.in_ok-add_at.ensures.typed;
    }

pub returns-clause-added : goal.returns-clause-added
returns-clause-added c =
    let row = (placed_row c.args.row).row in
    let long = length-map c.args.places.now (λ (index : ℕ). value_at row index) in
    let same : length c.args.fields.now ≡ length c.args.places.now = c.if-fields-places.false in
    values_end c.args.fields.now (key_of c.args.places.now row) c.loop-index.index c.args.out.now.items c.loop-index.out.items (omega arith) (omega arith) c.loop-index.invariant.added

pub returns-clause-typed : goal.returns-clause-typed
returns-clause-typed c =
    let row = (placed_row c.args.row).row in
    let long = length-map c.args.places.now (λ (index : ℕ). value_at row index) in
    let same : length c.args.fields.now ≡ length c.args.places.now = c.if-fields-places.false in
    have_end c.args.fields.now (key_of c.args.places.now row) c.loop-index.index (omega arith) (omega arith) c.loop-index.invariant.typed
