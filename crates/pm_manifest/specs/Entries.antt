-- What a record of a manifest is read as, and how it is written.
use Rattle.std.specs.Prelude.{◌≡◌, ℕ, zero, suc, ◌≤◌, ◌<◌, ◌^◌, ℤ, pos, List, [], ◌∷◌, codes, nat_eq}
use Rattle.std.specs.Prelude.{Bool, true, false, ◌&&◌, ◌||◌, Option, Some, None, is_some, Result, Ok, Err}
use Rattle.std.specs.Prelude.{if◌then◌else◌}
use Rattle.std.specs.Fmt.{signed_decimal}
use Rattle.std.specs.List.{ends_with}
use Rattle.std.specs.Option.{unwrap_or}
use Rattle.std.specs.Ordering.{int_eq}
use Rattle.pm_base.specs.Outcome.{◌>>=◌}
use Rattle.pm_base.specs.Steps as options
use Rattle.pm_avro_schema.specs.Avro as types
use Rattle.pm_avro_schema.specs.Avro.{Avro, Branches, no_branches, branch}
use Rattle.pm_avro_data.specs.Datum.{Data, null, int, long, bytes, text, record_of, union_of, items_of}
use Rattle.pm_values.specs.declared.file_meta.FileMeta.{FileMeta}
use Rattle.pm_values.specs.declared.column.ColType.{ColType}
use Rattle.pm_values.specs.Order.{Values}
use Rattle.pm_binrow.specs.Row.{IsShort, row_bytes}
use Rattle.pm_record.specs.Record.{is_null, indexes_in, type_of_field, present, selected}
use Rattle.pm_record.specs.Scalar.{long_in, int_in, text_in, bytes_in}
use Rattle.pm_record.specs.File.{Reading}
use Rattle.pm_record.specs.declared.misfit.Misfit.{Misfit}
use Rattle.pm_record.specs.declared.misfit.Misfit.TheVariants.{Bad, Unsupported}
use Rattle.pm_manifest.specs.declared.entry.Entry.{Entry}
use Rattle.pm_manifest.specs.Listed.{found, unknown_statistics}
use Rattle.pm_manifest.specs.Number.{most_counted, most_id, most_sequence, below, count_in, natural_in}
use Rattle.pm_manifest.specs.Rows.{full_row, IsFull}
use Rattle.pm_manifest.specs.Shape.{Shape, key_of, rest_of}

-- ---- one value

-- an ADD is 0, a DELETE 1
abbrev pub add_of : ℕ → Option Bool
add_of zero = Some true
add_of (suc zero) = Some false
add_of n = None

-- whether an entry adds its file
abbrev pub add_in : Data → Option Bool
add_in d = options.◌>>=◌ (natural_in d) add_of

-- the number of buckets, which has to be the table's
abbrev pub total_of : ℕ → ℤ → Result ℕ Misfit
total_of buckets z =
    if int_eq z (pos buckets) then Ok buckets
    else Err (Unsupported (codes "_TOTAL_BUCKETS") (signed_decimal z))

-- a bucket, which is one of so many
abbrev pub bucket_in : ℕ → Data → Option ℕ
bucket_in buckets d = options.◌>>=◌ (natural_in d) (below buckets)

-- what the name of a file ends in
abbrev pub suffix : List ℕ
suffix = codes ".avro"

-- a file's name
abbrev pub name_of : List ℕ → Result (List ℕ) Misfit
name_of name = if ends_with nat_eq name suffix then Ok name else Err (Unsupported (codes "file") name)

-- the row without a null of these types that bytes are
abbrev pub row_of : List ColType → Data → Option Values
row_of types d = options.◌>>=◌ (bytes_in d) (full_row types)

-- a key of a file of the partition
abbrev pub key_in : Shape → Values → Data → Option Values
key_in s partition d = options.◌>>=◌ (row_of s.rest d) (λ rest. Some (key_of s.places partition rest))

-- a moment, or null
abbrev pub time_of : Option Data → Result (Option ℤ) Misfit
time_of None = Ok None
time_of (Some d) = found (long_in d) >>= λ z. Ok (Some z)

-- a type that has numbers alone, or null alone
abbrev pub is_moment : Avro → Bool
is_moment types.null = true
is_moment types.int = true
is_moment types.long = true
is_moment t = false

-- of two types one is null, and the other has numbers alone
abbrev pub is_moment_or_null : Avro → Avro → Bool
is_moment_or_null first second = (is_null first && is_moment second) || (is_moment first && is_null second)

-- so of exactly two branches
abbrev pub are_moments : Branches → Bool
are_moments (branch first (branch second no_branches)) = is_moment_or_null first second
are_moments ts = false

-- a type that moments may have: a long, null, or their union in either order; an int may stand for the long
abbrev pub is_time : Avro → Bool
is_time (types.union_of ts) = are_moments ts
is_time t = is_moment t

-- a moment, or null, of such a type
abbrev pub time_in : Avro → Data → Result (Option ℤ) Misfit
time_in t d = if is_time t then time_of (present t d) else Err Bad

-- ---- a file, and an entry

-- the fields of a file that are read, in the order in which they are judged
abbrev pub file_fields : List (List ℕ)
file_fields =
    codes "_FILE_NAME" ∷ codes "_SCHEMA_ID" ∷ codes "_FILE_SIZE" ∷ codes "_ROW_COUNT" ∷ codes "_MIN_KEY"
    ∷ codes "_MAX_KEY" ∷ codes "_MIN_SEQUENCE_NUMBER" ∷ codes "_MAX_SEQUENCE_NUMBER" ∷ codes "_LEVEL"
    ∷ codes "_CREATION_TIME" ∷ []

-- the type of a record's field of a name, where it has one
abbrev pub field_type : List ℕ → Avro → Avro
field_type name t = unwrap_or (type_of_field name t) t

-- the file of a group of the partition that the values of these fields are, where they stand in a record of a type
abbrev pub file_of : Shape → Values → Avro → List Data → Result FileMeta Misfit
file_of s partition t
    (name ∷ schema ∷ size ∷ rows ∷ least ∷ greatest ∷ first ∷ last ∷ level ∷ created ∷ []) = do
      name ← found (text_in name) >>= name_of
      schema ← found (count_in most_id schema)
      size ← found (count_in most_counted size)
      rows ← found (count_in most_counted rows)
      least ← found (key_in s partition least)
      greatest ← found (key_in s partition greatest)
      first ← found (count_in most_sequence first)
      last ← found (count_in most_sequence last)
      level ← found (natural_in level)
      created ← time_in (field_type (codes "_CREATION_TIME") t) created
      Ok (record {
        name = name;
        size = size;
        rows = rows;
        min_key = least;
        max_key = greatest;
        min_seq = first;
        max_seq = last;
        schema_id = schema;
        level = level;
        created = created;
      })
file_of s partition t values = Err Bad

-- the file that a datum of a type is
abbrev pub file_in : Shape → Values → Reading FileMeta
file_in s partition t d = found (selected file_fields t d) >>= file_of s partition t

-- the fields of an entry that are read, in the order in which they are judged
abbrev pub entry_fields : List (List ℕ)
entry_fields =
    codes "_KIND" ∷ codes "_PARTITION" ∷ codes "_TOTAL_BUCKETS" ∷ codes "_BUCKET" ∷ codes "_FILE" ∷ []

-- the entry that the values of these fields are, where they stand in a record of a type
abbrev pub entry_of : Shape → Avro → List Data → Result Entry Misfit
entry_of s t (kind ∷ partition ∷ total ∷ bucket ∷ file ∷ []) = do
  add ← found (add_in kind)
  partition ← found (row_of s.partition partition)
  total ← found (int_in total) >>= total_of s.buckets
  bucket ← found (bucket_in s.buckets bucket)
  file ← file_in s partition (field_type (codes "_FILE") t) file
  Ok (record {
    add = add;
    group = record { partition = partition; bucket = bucket };
    buckets = total;
    file = file;
  })
entry_of s t values = Err Bad

-- the entry that a datum of a type is, in a manifest of a table of the shape
abbrev pub entry_in : Shape → Reading Entry
entry_in s t d = found (selected entry_fields t d) >>= entry_of s t

-- a record's type has all fields that are read, those of the file too
abbrev pub has_entry_fields : Avro → Bool
has_entry_fields t =
    is_some (indexes_in entry_fields t) && is_some (indexes_in file_fields (field_type (codes "_FILE") t))

-- ---- writing

abbrev pub kind_data : Bool → Data
kind_data add = int (pos (if add then 0 else 1))

abbrev pub time_data : Option ℤ → Data
time_data None = union_of 0 null
time_data (Some z) = union_of 1 (long z)

-- the datum of a key of a file
abbrev pub key_data : Shape → Values → Data
key_data s key = bytes (row_bytes s.rest (rest_of s.places key))

-- the datum of a file
abbrev pub file_data : Shape → FileMeta → Data
file_data s f = record_of (items_of (
    text f.name
    ∷ long (pos f.size)
    ∷ long (pos f.rows)
    ∷ key_data s f.min_key
    ∷ key_data s f.max_key
    ∷ unknown_statistics s.rest
    ∷ unknown_statistics s.columns
    ∷ long (pos f.min_seq)
    ∷ long (pos f.max_seq)
    ∷ long (pos f.schema_id)
    ∷ int (pos f.level)
    ∷ time_data f.created
    ∷ []))

-- the datum of an entry
abbrev pub entry_data : Shape → Entry → Data
entry_data s e = record_of (items_of (
    int (pos 2)
    ∷ kind_data e.add
    ∷ bytes (row_bytes s.partition e.group.partition)
    ∷ int (pos e.group.bucket)
    ∷ int (pos e.buckets)
    ∷ file_data s e.file
    ∷ []))

-- A file whose numbers are at most as great as what is read, and whose keys' rows are short. No other is written.
pub record IsFileWithin (s : Shape) (f : FileMeta) : Type 0 where
  pub schema : f.schema_id ≤ most_id
  pub size : f.size ≤ most_counted
  pub rows : f.rows ≤ most_counted
  pub least : IsShort s.rest (rest_of s.places f.min_key)
  pub greatest : IsShort s.rest (rest_of s.places f.max_key)
  pub first : f.min_seq ≤ most_sequence
  pub last : f.max_seq ≤ most_sequence
  pub level : f.level < 2 ^ 31

-- so of an entry
pub record IsWithin (s : Shape) (e : Entry) : Type 0 where
  pub partition : IsShort s.partition e.group.partition
  pub bucket : e.group.bucket < 2 ^ 31
  pub total : e.buckets < 2 ^ 31
  pub file : IsFileWithin s e.file

-- ---- what a manifest can have

-- a key of a file of the partition
abbrev pub IsKey : Shape → Values → Values → Type 0
IsKey s partition key = (rest : Values) × IsFull s.rest rest × (key ≡ key_of s.places partition rest)

-- a file of a group of the partition that a manifest can name
pub record IsFile (s : Shape) (partition : Values) (f : FileMeta) : Type 0 where
  pub named : ends_with nat_eq f.name suffix ≡ true
  pub schema : f.schema_id ≤ most_id
  pub size : f.size ≤ most_counted
  pub rows : f.rows ≤ most_counted
  pub least : IsKey s partition f.min_key
  pub greatest : IsKey s partition f.max_key
  pub first : f.min_seq ≤ most_sequence
  pub last : f.max_seq ≤ most_sequence
  pub level : f.level < 2 ^ 31

-- an entry that a manifest of a table of the shape can have
pub record IsEntry (s : Shape) (e : Entry) : Type 0 where
  pub partition : IsFull s.partition e.group.partition
  pub total : e.buckets ≡ s.buckets
  pub bucket : e.group.bucket < s.buckets
  pub file : IsFile s e.group.partition e.file
