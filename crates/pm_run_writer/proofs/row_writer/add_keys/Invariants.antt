use Rattle.std.proofs.Common.{take}
use Rattle.pm_avro_data.specs.Adding.{Adds}
use Rattle.pm_avro_data.specs.Datum.{items_of, record_of}
use Rattle.pm_model_history.specs.Merge.{key_of}
use Rattle.pm_row_slots.specs.Slot.{placed_row}
use Rattle.pm_run.specs.Row.{values_data}
use Rattle.pm_run.specs.Typed.{HaveFields}
use Rattle.pm_run_writer.proofs.row_writer.add_keys.Given as goal

-- the values so far are added
abbrev pub invariant-loop-index : goal.invariant-loop-index
invariant-loop-index l = record {
  added : Adds l.fn.out.items l.out.items (record_of (items_of (values_data (take l.index l.fields) (take l.index (key_of l.places (placed_row l.row).row)))));
  typed : HaveFields (take l.index l.fields) (values_data (take l.index l.fields) (take l.index (key_of l.places (placed_row l.row).row)));
}
