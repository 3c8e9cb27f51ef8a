use Rattle.std.proofs.Common.{◌≡◌, map, take}
use Rattle.serde_json.specs.View.{view}
use Rattle.pm_schema.specs.Written.{column_data}
use Rattle.pm_schema_file.proofs.write.json_of_columns.Given as goal

abbrev pub invariant-loop-column : goal.invariant-loop-column
invariant-loop-column l = map view l.items.items ≡ map column_data (take l.column-index l.columns)
