-- The Avro types of a record's fields: those that are written, and how those of a file stand to their columns.
use Rattle.std.specs.Prelude.{List, ◌∷◌, ◌++◌, map, codes, ℕ, Bool, true, false, ◌&&◌, ◌||◌}
use Rattle.std.specs.Prelude.{if◌then◌else◌, is_some, Option, Some, None}
use Rattle.pm_avro_schema.specs.Avro as avro
use Rattle.pm_avro_schema.specs.Avro.{Avro, Branches, no_branches, branch}
use Rattle.pm_avro_schema.specs.View.{fields_of}
use Rattle.pm_values.specs.declared.column.ColType.{ColType}
use Rattle.pm_values.specs.declared.column.ColType.TheVariants as types
use Rattle.pm_record.specs.Record.{is_null, indexes_in, type_of_field}
use Rattle.pm_run.specs.declared.form.Field.{Field}
use Rattle.pm_run.specs.declared.slot.Fit.{Fit}
use Rattle.pm_run.specs.declared.slot.Fit.TheVariants.{Plain, Optional, Unfit}
use Rattle.pm_run.specs.declared.slot.Slot.{Slot}
use Rattle.pm_run.specs.Form.{Form, row_fields}

-- ---- what is written

-- the type of a column's values
abbrev pub value_type : ColType → Avro
value_type types.Boolean = avro.boolean
value_type types.TinyInt = avro.int
value_type types.SmallInt = avro.int
value_type types.Int = avro.int
value_type types.BigInt = avro.long
value_type types.Text = avro.text
value_type types.Bytes = avro.bytes
value_type types.Date = avro.int
value_type types.Timestamp = avro.long

-- null or the type
abbrev pub or_null : Avro → Avro
or_null t = avro.union_of (branch avro.null (branch t no_branches))

-- the type of a field
abbrev pub field_type : Field → Avro
field_type x = if x.nullable then or_null (value_type x.kind) else value_type x.kind

-- a field's name and its type
abbrev pub typed_field : Field → List ℕ × Avro
typed_field x = (x.name, field_type x)

-- the type of a row's record: the key's fields, the sequence number, the kind, and the columns
abbrev pub run_type : Form → Avro
run_type f = avro.record_of (fields_of (
    map typed_field f.keys
    ++ (codes "_SEQUENCE_NUMBER", avro.long) ∷ (codes "_VALUE_KIND", avro.int) ∷ map typed_field f.columns))

-- ---- what is read

-- the type is that of a column's values; an int may stand for a long
abbrev pub has_values : ColType → Avro → Bool
has_values types.Boolean avro.boolean = true
has_values types.TinyInt avro.int = true
has_values types.SmallInt avro.int = true
has_values types.Int avro.int = true
has_values types.BigInt avro.int = true
has_values types.BigInt avro.long = true
has_values types.Text avro.text = true
has_values types.Bytes avro.bytes = true
has_values types.Date avro.int = true
has_values types.Timestamp avro.int = true
has_values types.Timestamp avro.long = true
has_values kind t = false

-- of two types one is null, and the other that of a column's values
abbrev pub has_values_or_null : ColType → Avro → Avro → Bool
has_values_or_null kind first second =
    (is_null first && has_values kind second) || (has_values kind first && is_null second)

-- so of exactly two branches
abbrev pub have_values : ColType → Branches → Bool
have_values kind (branch first (branch second no_branches)) = has_values_or_null kind first second
have_values kind ts = false

-- how a field's type stands to its column: it is that of the column's values, or the union of it and null in either
-- order, or another one
abbrev pub fit_of : ColType → Avro → Fit
fit_of kind (avro.union_of ts) = if have_values kind ts then Optional else Unfit
fit_of kind t = if has_values kind t then Plain else Unfit

-- so of a field that may be missing
abbrev pub fit_at : ColType → Option Avro → Fit
fit_at kind None = Unfit
fit_at kind (Some t) = fit_of kind t

-- how a field is read in records of a type
abbrev pub slot_of : Avro → Field → Slot
slot_of t x = record { kind = x.kind; nullable = x.nullable; fit = fit_at x.kind (type_of_field x.name t) }

-- how fields are read in records of a type
abbrev pub slots_of : Avro → List Field → List Slot
slots_of t fields = map (slot_of t) fields

-- a record's type has all fields that are read
abbrev pub has_row_fields : Form → Avro → Bool
has_row_fields f t = is_some (indexes_in (row_fields f) t)
