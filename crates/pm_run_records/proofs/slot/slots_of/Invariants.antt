use Rattle.std.proofs.Common.{◌≡◌, map, take}
use Rattle.pm_avro_schema.specs.View as types
use Rattle.pm_run.specs.Kinds.{slot_of}
use Rattle.pm_run_records.proofs.slot.slots_of.Given as goal

abbrev pub invariant-loop-field : goal.invariant-loop-field
invariant-loop-field l = l.slots.items ≡ map (slot_of (types.view l.kind)) (take l.field-index l.fields)
