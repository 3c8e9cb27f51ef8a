-- What reads the rows of a file's records.
use Rattle.std.specs.Prelude.{ℕ, List, Bool, Option}
use Rattle.std.specs.Option.{option_map}
use Rattle.pm_avro_schema.specs.Avro.{Avro}
use Rattle.pm_record.specs.Record.{indexes_in}
use Rattle.pm_run_records.specs.declared.row_reader.RowReader.{RowReader}
use Rattle.pm_run.specs.Form.{Form, row_fields}
use Rattle.pm_run.specs.Kinds.{slots_of}

-- Private: the reader of records of a type by the indexes of their fields
abbrev pub reader_by : Form → Bool → Avro → List ℕ → RowReader
reader_by f changes t is = record {
  form = f;
  changes = changes;
  fields = is;
  columns = slots_of t f.columns;
  keys = slots_of t f.keys;
}

-- the reader of records of a type; none where a field is missing
abbrev pub reader_in : Form → Bool → Avro → Option RowReader
reader_in f changes t = option_map (reader_by f changes t) (indexes_in (row_fields f) t)
