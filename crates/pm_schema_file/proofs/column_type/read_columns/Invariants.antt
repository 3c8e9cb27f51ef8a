use Rattle.std.proofs.Common.{◌≡◌, drop}
use Rattle.pm_schema.specs.ColumnType.{columns_in, fields_views}
use Rattle.pm_schema_file.proofs.ColumnLemmas.{after_columns}
use Rattle.pm_schema_file.proofs.column_type.read_columns.Given as goal

abbrev pub invariant-loop-id : goal.invariant-loop-id
invariant-loop-id l =
    after_columns l.columns.items (columns_in l.required (fields_views (drop l.id-index l.fields))) ≡ columns_in l.required (fields_views l.fields)
