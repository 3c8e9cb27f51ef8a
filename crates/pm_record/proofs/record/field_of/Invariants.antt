use Rattle.std.proofs.Common.{◌≡◌, drop}
use Rattle.pm_avro_schema.specs.View as types
use Rattle.pm_record.specs.Record.{type_in}
use Rattle.pm_record.proofs.record.field_of.Given as goal

abbrev pub invariant-loop-field : goal.invariant-loop-field
invariant-loop-field l =
    type_in l.name (types.fields_view (drop l.field-index l.field-items)) ≡ type_in l.name (types.fields_view l.field-items)
