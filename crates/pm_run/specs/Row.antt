-- Which row a record is, and how a row is written.
use Rattle.std.specs.Prelude.{◌≡◌, ℕ, ◌-◌, ◌^◌, ◌≤◌, ℤ, pos, negsuc, int_le, min, nat_le, List, [], ◌∷◌, ◌++◌, codes}
use Rattle.std.specs.Prelude.{Bool, true, false, ◌&&◌, if◌then◌else◌, Option, Some, None, option_map, Result, Ok, Err}
use Rattle.std.specs.Ordering.{is_eq}
use Rattle.pm_base.specs.Outcome.{◌>>=◌}
use Rattle.pm_base.specs.Steps as options
use Rattle.pm_options.specs.declared.kinds.EngineKind.{EngineKind}
use Rattle.pm_options.specs.declared.kinds.EngineKind.TheVariants as engines
use Rattle.pm_avro_data.specs.Datum.{Data, null, boolean, int, long, bytes, text, record_of, union_of, items_of}
use Rattle.pm_values.specs.Fits.{Fits, first_day, last_day}
use Rattle.pm_values.specs.Kind.{code_of, kind_from, retracts}
use Rattle.pm_values.specs.Order.{Values, value_cmp}
use Rattle.pm_values.specs.declared.column.ColType.{ColType}
use Rattle.pm_values.specs.declared.column.ColType.TheVariants as types
use Rattle.pm_values.specs.declared.kind.Kind.{Kind}
use Rattle.pm_values.specs.declared.kind.Kind.TheVariants.{Insert}
use Rattle.pm_values.specs.declared.record.Stamped.{Stamped}
use Rattle.pm_values.specs.declared.value.Value.{Value}
use Rattle.pm_values.specs.declared.value.Value.TheVariants.{Null, Bool as Truth, Int as Whole, Text as Words}
use Rattle.pm_values.specs.declared.value.Value.TheVariants.{Bytes as Octets, Day, Millis}
use Rattle.pm_rows.specs.RowText.{kind_text}
use Rattle.pm_schema.specs.declared.schema.TableSchema.{TableSchema}
use Rattle.pm_model_history.specs.Merge.{key_of, value_at}
use Rattle.pm_model_history.specs.Merged.{primary_of}
use Rattle.pm_model_history.specs.Taken.{stores}
use Rattle.pm_record.specs.File.{Reading}
use Rattle.pm_record.specs.Record.{selected}
use Rattle.pm_record.specs.Scalar.{boolean_in, bytes_in, int_in, long_in, text_in}
use Rattle.pm_record.specs.declared.misfit.Misfit.{Misfit}
use Rattle.pm_record.specs.declared.misfit.Misfit.TheVariants.{Bad, Unsupported}
use Rattle.pm_run.specs.declared.form.Field.{Field}
use Rattle.pm_run.specs.declared.slot.Fit.{Fit}
use Rattle.pm_run.specs.declared.slot.Fit.TheVariants.{Plain, Optional}
use Rattle.pm_run.specs.declared.slot.Slot.{Slot}
use Rattle.pm_run.specs.Form.{Form, row_fields}
use Rattle.pm_run.specs.Kinds.{slots_of}
use Rattle.pm_run.specs.Taking.{first_read, found}

-- ---- numbers and kinds

-- the greatest sequence number
abbrev pub most_sequence : ℕ
most_sequence = 2 ^ 62 - 1

-- a number that isn't negative
abbrev pub natural : ℤ → Option ℕ
natural (pos n) = Some n
natural z = None

-- a number that is at most so great
abbrev pub at_most : ℕ → ℕ → Option ℕ
at_most most n = if nat_le n most then Some n else None

-- the sequence number that is nearest to a number: 0 to one below it
abbrev pub nearest_sequence : ℤ → ℕ
nearest_sequence (pos n) = min n most_sequence
nearest_sequence z = 0

-- The number that a row of a changelog file or of a data file has by a datum, if it is one. In a changelog file it
-- means nothing: each long is one, and is read as the nearest sequence number, which it is itself where it is one.
abbrev pub number_in : Bool → Data → Option ℕ
number_in true d = option_map nearest_sequence (long_in d)
number_in false d = options.◌>>=◌ (options.◌>>=◌ (long_in d) natural) (at_most most_sequence)

-- the number of a row that a datum is
abbrev pub sequence_in : Bool → Data → Result ℕ Misfit
sequence_in changes d = found (number_in changes d)

-- the kind that a datum is the number of, if it is one
abbrev pub code_in : Data → Option Kind
code_in d = options.◌>>=◌ (int_in d) kind_from

-- the kind that a datum is the number of
abbrev pub kind_in : Data → Result Kind Misfit
kind_in d = found (code_in d)

-- the kind that is kept of one that adds; one that retracts isn't supported
abbrev pub unless_retracts : Kind → Kind → Result Kind Misfit
unless_retracts kind kept =
    if retracts kind then Err (Unsupported (codes "_VALUE_KIND") (kind_text kind)) else Ok kept

-- The kind of a row in a data file of a table with the engine: with deduplication each, with first rows each that
-- adds, and else `+I`, for which `+U` may stand.
abbrev pub stored_kind : EngineKind → Kind → Result Kind Misfit
stored_kind engines.Deduplicate kind = Ok kind
stored_kind engines.FirstRow kind = unless_retracts kind kind
stored_kind engine kind = unless_retracts kind Insert

-- the kind of a row; a changelog has all kinds
abbrev pub row_kind : Bool → EngineKind → Kind → Result Kind Misfit
row_kind true engine kind = Ok kind
row_kind false engine kind = stored_kind engine kind

-- ---- values

-- an integer from the low one to the high one
abbrev pub whole_in : ℤ → ℤ → ℤ → Option Value
whole_in low high z = if int_le low z && int_le z high then Some (Whole z) else None

-- a day from 0001-01-01 to 9999-12-31
abbrev pub day_in : ℤ → Option Value
day_in z = if int_le first_day z && int_le z last_day then Some (Day z) else None

-- the value of a column's type that a datum is
abbrev pub scalar_in : ColType → Data → Option Value
scalar_in types.Boolean d = options.◌>>=◌ (boolean_in d) (λ b. Some (Truth b))
scalar_in types.TinyInt d = options.◌>>=◌ (int_in d) (whole_in (negsuc 127) (pos 127))
scalar_in types.SmallInt d = options.◌>>=◌ (int_in d) (whole_in (negsuc 32767) (pos 32767))
scalar_in types.Int d = options.◌>>=◌ (int_in d) (λ z. Some (Whole z))
scalar_in types.BigInt d = options.◌>>=◌ (long_in d) (λ z. Some (Whole z))
scalar_in types.Text d = options.◌>>=◌ (text_in d) (λ bs. Some (Words bs))
scalar_in types.Bytes d = options.◌>>=◌ (bytes_in d) (λ bs. Some (Octets bs))
scalar_in types.Date d = options.◌>>=◌ (int_in d) day_in
scalar_in types.Timestamp d = options.◌>>=◌ (long_in d) (λ z. Some (Millis z))

-- a value that is null or of a column's type
abbrev pub optional_in : Slot → Data → Result Value Misfit
optional_in s null = if s.nullable then Ok Null else Err Bad
optional_in s d = found (scalar_in s.kind d)

-- the value that a datum of a field is, by how the field stands to its column
abbrev pub value_by : Fit → Slot → Data → Result Value Misfit
value_by Plain s d = found (scalar_in s.kind d)
value_by Optional s (union_of k d) = optional_in s d
value_by fit s d = Err Bad

-- the value that a datum of a field is
abbrev pub value_in : Slot → Data → Result Value Misfit
value_in s d = value_by s.fit s d

-- the values that the first data are, one for each field, and the later data
abbrev pub values_in : List Slot → List Data → Result (Values × List Data) Misfit
values_in [] ds = Ok ([], ds)
values_in (s ∷ slots) ds = do
  first ← first_read (value_in s) ds
  later ← values_in slots first.1
  Ok (first.0 ∷ later.0, later.1)

-- ---- a row

-- the values are those of a row at the indexes
abbrev pub agree : List ℕ → Values → Values → Bool
agree [] row [] = true
agree (i ∷ places) row (value ∷ values) = is_eq (value_cmp value (value_at row i)) && agree places row values
agree places row values = false

-- values that are those of a row at the indexes, else a misfit
abbrev pub agreed : List ℕ → Values → Values → Result Values Misfit
agreed places row values = if agree places row values then Ok values else Err Bad

-- The row that the values of the fields are, in the order in which these are judged: the sequence number, the kind's
-- number, the columns, the columns of the key, which have the values of their columns, and whether the kind is one
-- that the file may have.
abbrev pub row_of : Form → Bool → List Slot → List Slot → List Data → Result Stamped Misfit
row_of f changes columns keys ds = do
  seq ← first_read (sequence_in changes) ds
  kind ← first_read kind_in seq.1
  row ← values_in columns kind.1
  key ← values_in keys row.1
  own ← agreed f.places row.0 key.0
  kept ← row_kind changes f.engine kind.0
  Ok (record { key = key_of f.primary row.0; seq = seq.0; kind = kept; row = row.0 })

-- the row that a datum of a type is, in a data file or a changelog file
abbrev pub row_in : Form → Bool → Reading Stamped
row_in f changes t d =
    found (selected (row_fields f) t d) >>= row_of f changes (slots_of t f.columns) (slots_of t f.keys)

-- ---- writing

-- the datum of a value that isn't null
abbrev pub scalar_data : ColType → Value → Data
scalar_data types.BigInt (Whole z) = long z
scalar_data kind (Whole z) = int z
scalar_data kind (Truth b) = boolean b
scalar_data kind (Words bs) = text bs
scalar_data kind (Octets bs) = bytes bs
scalar_data kind (Day z) = int z
scalar_data kind (Millis z) = long z
scalar_data kind Null = null

-- the datum of a value that may be null
abbrev pub optional_data : ColType → Value → Data
optional_data kind Null = union_of 0 null
optional_data kind value = union_of 1 (scalar_data kind value)

-- the datum of a field's value
abbrev pub value_data : Field → Value → Data
value_data x value = if x.nullable then optional_data x.kind value else scalar_data x.kind value

-- the data of fields' values
abbrev pub values_data : List Field → Values → List Data
values_data (x ∷ fields) (value ∷ values) = value_data x value ∷ values_data fields values
values_data fields values = []

-- the datum of a row
abbrev pub row_data : Form → Stamped → Data
row_data f x = record_of (items_of (
    values_data f.keys (key_of f.places x.row)
    ++ long (pos x.seq) ∷ int (pos (code_of x.kind)) ∷ values_data f.columns x.row))

-- ---- rows that files can have

-- a row of the kind may stand in a file: in a changelog file of any, in a data file of those that are stored
abbrev pub may_stand : Bool → TableSchema → Kind → Bool
may_stand true s kind = true
may_stand false s kind = stores s kind

-- a row that a data file or a changelog file can have: it fits, the key beside it is its own, its number is within the
-- greatest, and its kind may stand there
pub record IsOfFile (s : TableSchema) (changes : Bool) (x : Stamped) : Type 0 where
  pub fits : Fits s.columns x.row
  pub own : x.key ≡ key_of (primary_of s) x.row
  pub numbered : x.seq ≤ most_sequence
  pub kept : may_stand changes s x.kind ≡ true
