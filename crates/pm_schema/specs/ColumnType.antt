-- The texts of column types: one of nine, followed by nothing or by ` NOT NULL`.
use Rattle.std.specs.Prelude.{ℕ, List, [], ◌∷◌, ◌++◌, map, codes, Bool, true, false, not, ◌&&◌, Option, if◌then◌else◌, Result, Ok, ok_or}
use Rattle.std.specs.Borrow.{Bor}
use Rattle.pm_base.specs.Outcome.{◌>>=◌}
use Rattle.pm_options.specs.Entries.{entry_at}
use Rattle.pm_schema.specs.Rules.{is_among}
use Rattle.pm_values.specs.declared.column.ColType.{ColType}
use Rattle.pm_values.specs.declared.column.ColType.TheVariants as types
use Rattle.pm_values.specs.declared.column.Column.{Column}
use Rattle.pm_values.specs.declared.refusal.Refusal.{Refusal}
use Rattle.pm_values.specs.declared.refusal.Refusal.TheVariants.{Unsupported}

abbrev pub kind_text : ColType → List ℕ
kind_text types.Boolean = codes "BOOLEAN"
kind_text types.TinyInt = codes "TINYINT"
kind_text types.SmallInt = codes "SMALLINT"
kind_text types.Int = codes "INT"
kind_text types.BigInt = codes "BIGINT"
kind_text types.Text = codes "STRING"
kind_text types.Bytes = codes "BYTES"
kind_text types.Date = codes "DATE"
kind_text types.Timestamp = codes "TIMESTAMP(3)"

-- a column's type, and whether null may stand in it
abbrev pub ColumnType : Type 0
ColumnType = ColType × Bool

abbrev pub type_text : ColumnType → List ℕ
type_text t = kind_text t.0 ++ (if t.1 then [] else codes " NOT NULL")

abbrev pub both : ColType → List ColumnType → List ColumnType
both kind more = (kind, true) ∷ (kind, false) ∷ more

abbrev pub all_types : List ColumnType
all_types =
    both types.Boolean (both types.TinyInt (both types.SmallInt (both types.Int (both types.BigInt
    (both types.Text (both types.Bytes (both types.Date (both types.Timestamp []))))))))

-- the type that has the text
abbrev pub type_in : List ℕ → Option ColumnType
type_in text = entry_at text (map (λ t. (type_text t, t)) all_types)

-- a field's id, its name and its type's text
abbrev pub Field : Type 0
Field = ℕ × List ℕ × List ℕ

-- The column of a field with this type. Of the names that are required each column is NOT NULL.
abbrev pub column_of : List (List ℕ) → Field → ColumnType → Column
column_of required field t = record {
  id = field.0;
  name = field.1;
  kind = t.0;
  nullable = t.1 && not (is_among required field.1);
}

-- the column that a field states, or its text that is no type
abbrev pub column_in : List (List ℕ) → Field → Result Column Refusal
column_in required field =
    ok_or (type_in field.2) (Unsupported (codes "type") field.2) >>= λ t. Ok (column_of required field t)

-- the columns that fields state, or the first text that is no type
abbrev pub columns_in : List (List ℕ) → List Field → Result (List Column) Refusal
columns_in required [] = Ok []
columns_in required (field ∷ fields) = do
  c ← column_in required field
  more ← columns_in required fields
  Ok (c ∷ more)

-- the fields that borrowed texts are
abbrev pub fields_views : List (ℕ × Bor (List ℕ) × Bor (List ℕ)) → List Field
fields_views fields = map (λ f. (f.0, f.1.now, f.2.now)) fields
