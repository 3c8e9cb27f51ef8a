use Rattle.std.proofs.Common.{◌≡◌, ◌++◌, map, drop}
use Rattle.pm_avro_schema.specs.View as types
use Rattle.pm_run.specs.Kinds.{typed_field}
use Rattle.pm_run_form.proofs.kinds.push_fields.Given as goal

-- the fields so far, and those that are left
abbrev pub invariant-loop-column : goal.invariant-loop-column
invariant-loop-column l = map types.field_view l.fields.items ++ map typed_field (drop l.column-index l.columns)
    ≡ map types.field_view l.fn.fields.items ++ map typed_field l.columns
