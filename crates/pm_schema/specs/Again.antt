-- What the written text of a schema states, and which schemas it declares again.
use Rattle.std.specs.Prelude.{◌^◌, ◌<◌, ◌≤◌, map, length, FitsSigned, IsTrue}
use Rattle.std.specs.Int.{w64}
use Rattle.std.specs.List.{AllByRecursion}
use Rattle.pm_options.specs.Fields.{by_name}
use Rattle.pm_options.specs.Stands.{Stands}
use Rattle.pm_options.specs.Written.{settings_of}
use Rattle.pm_values.specs.declared.column.Column.{Column}
use Rattle.pm_schema.specs.ColumnType.{Field, type_text}
use Rattle.pm_schema.specs.Reading.{most_columns}
use Rattle.pm_schema.specs.Rules.{all_rules, meets}
use Rattle.pm_schema.specs.Stated.{Stated}
use Rattle.pm_schema.specs.declared.schema.TableSchema.{TableSchema}

-- the field of a column
abbrev pub field_of : Column → Field
field_of c = (c.id, c.name, type_text (c.kind, c.nullable))

-- the schema as it is stated, its settings by rising key
abbrev pub stated_again : TableSchema → Stated
stated_again s = record {
  id = s.id;
  fields = map field_of s.columns;
  highest = s.highest;
  partition = s.partition;
  primary = s.primary;
  settings = by_name (settings_of s.options);
  comment = s.comment;
  time = s.time;
  origin = s.origin;
}

-- the numbers of a schema are those of their types
pub record HasRanges (s : TableSchema) : Type 0 where
  pub highest : s.highest < 2 ^ 32
  pub ids : AllByRecursion (λ c. c.id < 2 ^ 32) s.columns
  pub time : FitsSigned w64 s.time

-- a schema that a file or a draft can declare: its numbers are those of their types, there are at most 64 columns,
-- settings can state its options, and each rule is met
pub record IsDeclared (s : TableSchema) : Type 0 where
  pub ranges : HasRanges s
  pub few : length s.columns ≤ most_columns
  pub options : Stands s.options
  pub rules : AllByRecursion (λ rule. IsTrue (meets rule s)) all_rules
