-- The Avro types of the records of manifest lists and manifests: their fields in order.
use Rattle.std.specs.Prelude.{[], ◌∷◌, codes}
use Rattle.pm_avro_schema.specs.Avro.{Avro, null, int, long, bytes, text, record_of, array_of, union_of}
use Rattle.pm_avro_schema.specs.Avro.{no_branches, branch}
use Rattle.pm_avro_schema.specs.View.{fields_of}

-- null or the type
abbrev pub or_null : Avro → Avro
or_null t = union_of (branch null (branch t no_branches))

-- statistics of columns: rows of their least and greatest values, and how many nulls each has
abbrev pub statistics_type : Avro
statistics_type = record_of (fields_of (
    (codes "_MIN_VALUES", bytes)
    ∷ (codes "_MAX_VALUES", bytes)
    ∷ (codes "_NULL_COUNTS", or_null (array_of (or_null long)))
    ∷ []))

-- a record of a manifest list: a manifest
abbrev pub meta_type : Avro
meta_type = record_of (fields_of (
    (codes "_VERSION", int)
    ∷ (codes "_FILE_NAME", text)
    ∷ (codes "_FILE_SIZE", long)
    ∷ (codes "_NUM_ADDED_FILES", long)
    ∷ (codes "_NUM_DELETED_FILES", long)
    ∷ (codes "_PARTITION_STATS", statistics_type)
    ∷ (codes "_SCHEMA_ID", long)
    ∷ []))

-- the file in an entry
abbrev pub file_type : Avro
file_type = record_of (fields_of (
    (codes "_FILE_NAME", text)
    ∷ (codes "_FILE_SIZE", long)
    ∷ (codes "_ROW_COUNT", long)
    ∷ (codes "_MIN_KEY", bytes)
    ∷ (codes "_MAX_KEY", bytes)
    ∷ (codes "_KEY_STATS", statistics_type)
    ∷ (codes "_VALUE_STATS", statistics_type)
    ∷ (codes "_MIN_SEQUENCE_NUMBER", long)
    ∷ (codes "_MAX_SEQUENCE_NUMBER", long)
    ∷ (codes "_SCHEMA_ID", long)
    ∷ (codes "_LEVEL", int)
    ∷ (codes "_CREATION_TIME", or_null long)
    ∷ []))

-- a record of a manifest: an entry
abbrev pub entry_type : Avro
entry_type = record_of (fields_of (
    (codes "_VERSION", int)
    ∷ (codes "_KIND", int)
    ∷ (codes "_PARTITION", bytes)
    ∷ (codes "_BUCKET", int)
    ∷ (codes "_TOTAL_BUCKETS", int)
    ∷ (codes "_FILE", file_type)
    ∷ []))
