use Rattle.std.proofs.Common.{◌≡◌, drop}
use Rattle.pm_avro_schema.specs.Avro.{take_no_byte}
use Rattle.pm_avro_schema.specs.View.{fields_view}
use Rattle.pm_avro_schema.proofs.kind.+empty.Given as goal

abbrev pub invariant-take_no_byte-loop-field : goal.invariant-take_no_byte-loop-field
invariant-take_no_byte-loop-field l = take_no_byte (fields_view (drop l.field-index l.field-items)) ≡ take_no_byte (fields_view l.field-items)
