-- What a record of a manifest list is read as, and how it is written.
use Rattle.std.specs.Prelude.{ℕ, ◌≤◌, pos, List, [], ◌∷◌, codes, Bool, Option, is_some, Result, Ok, Err, ok_or}
use Rattle.pm_base.specs.Outcome.{◌>>=◌}
use Rattle.pm_avro_schema.specs.Avro.{Avro}
use Rattle.pm_avro_data.specs.Datum.{Data, null, int, long, bytes, text, record_of, union_of, items_of}
use Rattle.pm_values.specs.declared.column.ColType.{ColType}
use Rattle.pm_binrow.specs.Row.{row_bytes}
use Rattle.pm_record.specs.Record.{indexes_in, selected}
use Rattle.pm_record.specs.Scalar.{text_in}
use Rattle.pm_record.specs.File.{Reading}
use Rattle.pm_record.specs.declared.misfit.Misfit.{Misfit}
use Rattle.pm_record.specs.declared.misfit.Misfit.TheVariants.{Bad}
use Rattle.pm_manifest.specs.declared.entry.ManifestMeta.{ManifestMeta}
use Rattle.pm_manifest.specs.Number.{most_counted, most_id, count_in}

-- what was found, or else a misfit
abbrev pub found : {X : Type 0} → Option X → Result X Misfit
found one = ok_or one Bad

-- the fields that are read, in the order in which they are judged
abbrev pub meta_fields : List (List ℕ)
meta_fields =
    codes "_FILE_NAME" ∷ codes "_FILE_SIZE" ∷ codes "_NUM_ADDED_FILES" ∷ codes "_NUM_DELETED_FILES"
    ∷ codes "_SCHEMA_ID" ∷ []

-- a record's type has them all
abbrev pub has_meta_fields : Avro → Bool
has_meta_fields t = is_some (indexes_in meta_fields t)

-- the manifest of the values of these fields
abbrev pub meta_of : List Data → Result ManifestMeta Misfit
meta_of (name ∷ size ∷ added ∷ deleted ∷ schema ∷ []) = do
  name ← found (text_in name)
  size ← found (count_in most_counted size)
  added ← found (count_in most_counted added)
  deleted ← found (count_in most_counted deleted)
  schema ← found (count_in most_id schema)
  Ok (record { name = name; size = size; added = added; deleted = deleted; schema_id = schema })
meta_of values = Err Bad

-- the manifest that a datum of a type is
abbrev pub meta_in : Reading ManifestMeta
meta_in t d = found (selected meta_fields t d) >>= meta_of

-- ---- writing

-- the statistics of columns of which nothing is known
abbrev pub unknown_statistics : List ColType → Data
unknown_statistics types = record_of (items_of (
    bytes (row_bytes types []) ∷ bytes (row_bytes types []) ∷ union_of 0 null ∷ []))

-- the datum of a manifest, in a list of a table with partition columns of these types
abbrev pub meta_data : List ColType → ManifestMeta → Data
meta_data partition m = record_of (items_of (
    int (pos 2)
    ∷ text m.name
    ∷ long (pos m.size)
    ∷ long (pos m.added)
    ∷ long (pos m.deleted)
    ∷ unknown_statistics partition
    ∷ long (pos m.schema_id)
    ∷ []))

-- a manifest whose numbers are within their bounds
pub record IsListed (m : ManifestMeta) : Type 0 where
  pub size : m.size ≤ most_counted
  pub added : m.added ≤ most_counted
  pub deleted : m.deleted ≤ most_counted
  pub schema : m.schema_id ≤ most_id
