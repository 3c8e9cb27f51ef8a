-- Private: what reads a manifest's records.
use Rattle.std.specs.Prelude.{codes, Option, Some}
use Rattle.pm_base.specs.Steps.{◌>>=◌}
use Rattle.pm_avro_schema.specs.Avro.{Avro}
use Rattle.pm_record.specs.Record.{indexes_in}
use Rattle.pm_manifest_reader.specs.declared.manifest_reader.EntryReader.{EntryReader}
use Rattle.pm_manifest.specs.Entries.{entry_fields, field_type, file_fields}
use Rattle.pm_manifest.specs.Shape.{Shape}

-- Private: the reader of records of a type, in manifests of a table of the shape; none where a field is missing
abbrev pub reader_in : Shape → Avro → Option EntryReader
reader_in s t = do
  fields ← indexes_in entry_fields t
  file_fields ← indexes_in file_fields (field_type (codes "_FILE") t)
  Some (record { shape = s; fields = fields; file_fields = file_fields })
