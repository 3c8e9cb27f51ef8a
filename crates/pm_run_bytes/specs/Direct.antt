-- Rows that are read straight from the bytes of a file that is as it is written.
use Rattle.std.specs.Prelude.{◌≡◌, ◌≤◌, ◌++◌, ℕ, pos, List, Bool, true, Option, Some, None, Ok, drop, length, map}
use Rattle.pm_values.specs.Order.{Values}
use Rattle.pm_values.specs.declared.record.Stamped.{Stamped}
use Rattle.pm_values.specs.declared.value.Value.{Value}
use Rattle.pm_avro_schema.specs.Avro.{Avro}
use Rattle.pm_avro_schema.specs.View.{fields_of}
use Rattle.pm_avro_data.specs.Datum.{Data, items_of, record_of}
use Rattle.pm_avro_data.specs.IsDatum.{AreFields, AreItems, IsDatum}
use Rattle.pm_avro_data.specs.Number.{IsLong}
use Rattle.pm_avro_file.specs.Reader.{Reader}
use Rattle.pm_record.specs.Record.{all_differ}
use Rattle.pm_run_bytes.specs.declared.direct.Direct.{Direct}
use Rattle.pm_run.specs.declared.form.Field.{Field}
use Rattle.pm_run.specs.Form.{Form, written_fields}
use Rattle.pm_run.specs.Kinds.{field_type, run_type, typed_field}
use Rattle.pm_run.specs.Row.{row_data, row_in, value_data, values_data}
use Rattle.pm_run.specs.Rows.{Opened, all_judged, judged, placed}
use Rattle.pm_run.specs.Typed.{FitFields, FitsField, IsWritable}
use Rattle.pm_run_scalars.specs.Spelled.{IsSpelled}

-- Private: the source is a value of a field, as it is written, and then the rest
abbrev pub IsCell : Field → Value → List ℕ → List ℕ → Type 0
IsCell x value source rest = IsDatum (field_type x) (value_data x value) source rest × FitsField x value
    × IsSpelled source rest (value_data x value)

-- Private: the source is one value for each field, each as it is written, and then the rest
abbrev pub AreCells : List Field → Values → List ℕ → List ℕ → Type 0
AreCells fields values source rest =
    AreFields (fields_of (map typed_field fields)) (items_of (values_data fields values)) source rest
    × FitFields fields values
    × IsSpelled source rest (record_of (items_of (values_data fields values)))

-- Private: the source is what is written of a row that can be written, and then the rest
pub record IsWrittenRow (f : Form) (x : Stamped) (source rest : List ℕ) : Type 0 where
  pub writable : IsWritable f x
  pub written : IsSpelled source rest (row_data f x)

-- what is written of a form has the type
pub record IsWritten (f : Form) (t : Avro) : Type 0 where
  pub kind : t ≡ run_type f
  pub differ : all_differ (written_fields f) ≡ true

-- where what is written has the type, the source is a datum of it that is the row, and then the rest
abbrev pub IsRow : Form → Bool → Stamped → List ℕ → List ℕ → Type 0
IsRow f changes x source rest = (t : Avro) → IsWritten f t
    → (d : Data) × IsDatum t d source rest × (row_in f changes t d ≡ Ok x)

-- Private: so the source is as many data that are the rows, after one with the key before, and then the rest
abbrev pub AreRows : Form → Bool → Option Values → List Stamped → List ℕ → List ℕ → Type 0
AreRows f changes before rows source rest = (o : Opened) (offset : ℕ) → o.form ≡ f → o.changes ≡ changes
    → IsWritten f o.file.kind
    → (ds : List Data) × (length ds ≡ length rows) × AreItems (IsDatum o.file.kind) ds source rest
    × (judged o before (placed offset ds) ≡ all_judged rows)

-- the marker is that of an opened file that is as what is written of a form
pub record IsDirect (d : Direct) (f : Form) (r : Reader) : Type 0 where
  pub marker : d.marker.items ≡ r.marker
  pub written : IsWritten f r.kind

-- so where there are any
abbrev pub IsDirectOr : Option Direct → Form → Reader → Type 0
IsDirectOr None f r = Unit {0}
IsDirectOr (Some d) f r = IsDirect d f r

-- of a file of these bytes the block at an offset says that it has so many data, which are this content, and ends at
-- the next offset
pub record HasContent (d : Direct) (bytes : List ℕ) (offset count : ℕ) (content : List ℕ) (next : ℕ) : Type 0 where
  pub middle : List ℕ
  pub left : List ℕ
  pub within : next ≤ length bytes
  pub counted : IsLong (pos count) (drop offset bytes) middle
  pub sized : IsLong (pos (length content)) middle left
  pub fits : count ≤ length content
  pub marked : left ≡ content ++ (d.marker.items ++ drop next bytes)
