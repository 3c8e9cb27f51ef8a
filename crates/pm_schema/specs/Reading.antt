-- The schema that a file or a draft states, or its first fault: JSON and fields, the number of columns, types in the
-- order of the fields, options in the order of their keys, pairs of options, and then the rules.
use Rattle.std.specs.Prelude.{ℕ, List, [], length, codes, nat_lt, ℤ, Option, Some, None, option_and_then, if◌then◌else◌, Result, Ok, ok_or}
use Rattle.serde_json.specs.Data.{Data}
use Rattle.pm_base.specs.Outcome.{◌>>=◌}
use Rattle.pm_options.specs.Faults.{judged}
use Rattle.pm_options.specs.Reading.{options_of}
use Rattle.pm_options.specs.declared.options.Options.{Options}
use Rattle.pm_values.specs.declared.column.Column.{Column}
use Rattle.pm_values.specs.declared.refusal.Refusal.{Refusal}
use Rattle.pm_values.specs.declared.refusal.Refusal.TheVariants.{BadLine, Damaged, Limit}
use Rattle.pm_values.specs.declared.refusal.Why.{Why}
use Rattle.pm_values.specs.declared.refusal.Why.TheVariants as whys
use Rattle.pm_schema.specs.ColumnType.{columns_in}
use Rattle.pm_schema.specs.Rules.{rule_fault}
use Rattle.pm_schema.specs.Stated.{Stated, json_of, file_in, at_path, with_missing, draft_in, stated_of}
use Rattle.pm_schema.specs.declared.schema.TableSchema.{TableSchema}

-- the greatest number of columns
abbrev pub most_columns : ℕ
most_columns = 64

abbrev pub columns_fault : ℕ → Option Refusal
columns_fault n = if nat_lt most_columns n then Some (Limit (codes "columns") most_columns) else None

-- the schema of what is stated, with its columns and options
abbrev pub schema_with : Stated → List Column → Options → TableSchema
schema_with stated columns options = record {
  id = stated.id;
  columns = columns;
  highest = stated.highest;
  partition = stated.partition;
  primary = stated.primary;
  options = options;
  comment = stated.comment;
  time = stated.time;
  origin = stated.origin;
}

-- the schema of what is stated, with its columns
unfoldable pub schema_from : Stated → List Column → Result TableSchema Refusal
schema_from stated columns = do
  options ← options_of stated.settings
  rules ← judged (rule_fault (schema_with stated columns options))
  Ok (schema_with stated columns options)

-- what an object states as the schema of the file at the path
abbrev pub file_at : List ℕ → Data → Option Stated
file_at path d = option_and_then (at_path path) (file_in d)

-- the schema of a file at a path
unfoldable pub schema_of : List ℕ → List ℕ → Result TableSchema Refusal
schema_of path text = do
  d ← ok_or (json_of text) (Damaged path 0)
  stated ← ok_or (file_at path d) (Damaged path 0)
  few ← judged (columns_fault (length stated.fields))
  columns ← columns_in [] stated.fields
  schema_from (with_missing stated) columns

-- a draft is the first line of its input
abbrev pub bad_draft : Why → Refusal
bad_draft why = BadLine 1 why []

-- the first schema of a table from a draft, in which each column of the primary key is NOT NULL
unfoldable pub draft_of : List ℕ → List ℕ → ℤ → Result TableSchema Refusal
draft_of line origin now = do
  d ← ok_or (json_of line) (bad_draft whys.Json)
  draft ← ok_or (draft_in d) (bad_draft whys.Draft)
  few ← judged (columns_fault (length draft.fields))
  columns ← columns_in draft.primary (stated_of draft origin now).fields
  schema_from (stated_of draft origin now) columns
