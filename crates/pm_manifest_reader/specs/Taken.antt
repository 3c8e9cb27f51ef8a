-- Private: records whose values are taken one after another. What stands for a value is opaque to the proofs of the
-- functions that read a record.
use Rattle.std.specs.Prelude.{ℕ, ℤ, List, codes, Bool, Option, Result, Ok}
use Rattle.pm_base.specs.Outcome.{◌>>=◌}
use Rattle.pm_avro_schema.specs.Avro.{Avro}
use Rattle.pm_avro_data.specs.Datum.{Data}
use Rattle.pm_values.specs.declared.column.ColType.{ColType}
use Rattle.pm_values.specs.declared.file_meta.FileMeta.{FileMeta}
use Rattle.pm_values.specs.Order.{Values}
use Rattle.pm_record.specs.Scalar.{int_in, text_in}
use Rattle.pm_record.specs.declared.misfit.Misfit.{Misfit}
use Rattle.pm_manifest.specs.declared.entry.Entry.{Entry}
use Rattle.pm_manifest.specs.declared.entry.ManifestMeta.{ManifestMeta}
use Rattle.pm_manifest.specs.Entries.{add_in, bucket_in, field_type, file_in, key_in, name_of, row_of, time_in}
use Rattle.pm_manifest.specs.Entries.{total_of}
use Rattle.pm_manifest.specs.Listed.{found}
use Rattle.pm_manifest.specs.Number.{most_counted, most_id, most_sequence, count_in, natural_in}
use Rattle.pm_manifest.specs.Shape.{Shape}
use Rattle.pm_manifest_reader.specs.FieldValues.{first, later}

-- ---- one value

-- Private: a text
unfoldable pub text_found : Data → Result (List ℕ) Misfit
text_found d = found (text_in d)

-- Private: a long from 0 to the greatest
unfoldable pub count_found : ℕ → Data → Result ℕ Misfit
count_found most d = found (count_in most d)

-- Private: an int from 0 on
unfoldable pub natural_found : Data → Result ℕ Misfit
natural_found d = found (natural_in d)

-- Private: whether an entry adds its file
unfoldable pub add_found : Data → Result Bool Misfit
add_found d = found (add_in d)

-- Private: a row without a null
unfoldable pub row_found : List ColType → Data → Result Values Misfit
row_found types d = found (row_of types d)

-- Private: the number of buckets, which has to be the table's
unfoldable pub total_found : ℕ → Data → Result ℕ Misfit
total_found buckets d = found (int_in d) >>= total_of buckets

-- Private: a bucket, which is one of so many
unfoldable pub bucket_found : ℕ → Data → Result ℕ Misfit
bucket_found buckets d = found (bucket_in buckets d)

-- Private: a file's name
unfoldable pub name_found : Data → Result (List ℕ) Misfit
name_found d = found (text_in d) >>= name_of

-- Private: a key of a file of the partition
unfoldable pub key_found : Shape → Values → Data → Result Values Misfit
key_found s partition d = found (key_in s partition d)

-- Private: a moment, or null
unfoldable pub time_found : Avro → Data → Result (Option ℤ) Misfit
time_found t d = time_in t d

-- Private: a file of a group of the partition
unfoldable pub file_found : Shape → Values → Avro → Data → Result FileMeta Misfit
file_found s partition t d = file_in s partition t d

-- ---- all values of a record

-- Private: the manifest of values that are taken one after another
unfoldable pub meta_by : List Data → Result ManifestMeta Misfit
meta_by values = do
  name ← text_found (first values)
  size ← count_found most_counted (first (later values))
  added ← count_found most_counted (first (later (later values)))
  deleted ← count_found most_counted (first (later (later (later values))))
  schema ← count_found most_id (first (later (later (later (later values)))))
  Ok (record { name = name; size = size; added = added; deleted = deleted; schema_id = schema })

-- Private: the file of values that are taken one after another
unfoldable pub file_by : Shape → Values → Avro → List Data → Result FileMeta Misfit
file_by s partition t values = do
  name ← name_found (first values)
  schema ← count_found most_id (first (later values))
  size ← count_found most_counted (first (later (later values)))
  rows ← count_found most_counted (first (later (later (later values))))
  least ← key_found s partition (first (later (later (later (later values)))))
  greatest ← key_found s partition (first (later (later (later (later (later values))))))
  min_seq ← count_found most_sequence (first (later (later (later (later (later (later values)))))))
  max_seq ← count_found most_sequence (first (later (later (later (later (later (later (later values))))))))
  level ← natural_found (first (later (later (later (later (later (later (later (later values)))))))))
  created ← time_found (field_type (codes "_CREATION_TIME") t)
      (first (later (later (later (later (later (later (later (later (later values))))))))))
  Ok (record {
    name = name;
    size = size;
    rows = rows;
    min_key = least;
    max_key = greatest;
    min_seq = min_seq;
    max_seq = max_seq;
    schema_id = schema;
    level = level;
    created = created;
  })

-- Private: the entry of values that are taken one after another
unfoldable pub entry_by : Shape → Avro → List Data → Result Entry Misfit
entry_by s t values = do
  add ← add_found (first values)
  partition ← row_found s.partition (first (later values))
  total ← total_found s.buckets (first (later (later values)))
  bucket ← bucket_found s.buckets (first (later (later (later values))))
  file ← file_found s partition (field_type (codes "_FILE") t) (first (later (later (later (later values)))))
  Ok (record {
    add = add;
    group = record { partition = partition; bucket = bucket };
    buckets = total;
    file = file;
  })
