-- What is written for rows: files of a run, and the file of a changelog.
use Rattle.std.specs.Prelude.{◌≡◌, ℕ, ◌+◌, ◌≤◌, min, max, List, [], ◌∷◌, ◌++◌, length, map, take, drop, codes, false}
use Rattle.std.specs.Prelude.{Option, Some, None}
use Rattle.std.specs.List.{AllByRecursion}
use Rattle.std.specs.List.Sorted.{IsStrictlySortedBy}
use Rattle.pm_values.specs.Fits.{Fits}
use Rattle.pm_values.specs.Names.{Naming, counted, name_of}
use Rattle.pm_values.specs.Order.{Values, key_cmp}
use Rattle.pm_values.specs.declared.file_meta.FileMeta.{FileMeta}
use Rattle.pm_values.specs.declared.record.Stamped.{Stamped}
use Rattle.pm_schema.specs.declared.schema.TableSchema.{TableSchema}
use Rattle.pm_model_history.specs.Merge.{key_of}
use Rattle.pm_model_history.specs.Merged.{primary_of}
use Rattle.pm_record.specs.File.{IsFileOf}
use Rattle.pm_run.specs.declared.run.RunFile.{RunFile}
use Rattle.pm_run.specs.Form.{form_of}
use Rattle.pm_run.specs.Kinds.{run_type}
use Rattle.pm_run.specs.Order.{keys_of, last_key}
use Rattle.pm_run.specs.Row.{row_data}
use Rattle.pm_run.specs.Rows.{HasRows}
use Rattle.pm_run.specs.Typed.{IsWritable}

-- ---- what is known of a file

-- the key of the first row
abbrev pub first_key : List Stamped → Option Values
first_key [] = None
first_key (x ∷ rows) = Some x.key

-- the least of a number and the rows' sequence numbers
abbrev pub least_of : ℕ → List Stamped → ℕ
least_of n [] = n
least_of n (x ∷ rows) = min x.seq (least_of n rows)

-- the greatest of a number and the rows' sequence numbers
abbrev pub greatest_of : ℕ → List Stamped → ℕ
greatest_of n [] = n
greatest_of n (x ∷ rows) = max x.seq (greatest_of n rows)

-- the sequence number of the first row
abbrev pub first_sequence : List Stamped → ℕ
first_sequence [] = 0
first_sequence (x ∷ rows) = x.seq

-- What is known of a file of these rows: its length, how many rows it has, the least and the greatest of their keys,
-- which rise or don't fall and so are the first and the last, and of their sequence numbers.
pub record IsMetaOf (s : TableSchema) (level : ℕ) (name : List ℕ) (rows : List Stamped) (bytes : List ℕ)
    (m : FileMeta) : Type 0 where
  pub named : m.name ≡ name
  pub size : m.size ≡ length bytes
  pub count : m.rows ≡ length rows
  pub least : first_key rows ≡ Some m.min_key
  pub greatest : last_key None rows ≡ Some m.max_key
  pub lowest : m.min_seq ≡ least_of (first_sequence rows) rows
  pub highest : m.max_seq ≡ greatest_of (first_sequence rows) rows
  pub schema : m.schema_id ≡ s.id
  pub levelled : m.level ≡ level
  pub unknown : m.created ≡ None

-- a file of these rows, at most 1024 in a block
pub record IsFileWith (s : TableSchema) (level : ℕ) (marker name : List ℕ) (rows : List Stamped)
    (f : RunFile) : Type 0 where
  pub meta : IsMetaOf s level name rows f.bytes f.meta
  pub bytes : IsFileOf (run_type (form_of s)) 1024 (map (row_data (form_of s)) rows) marker f.bytes
  pub writable : AllByRecursion (IsWritable (form_of s)) rows

-- ---- the files of a run

-- what data files and changelog files are named between
abbrev pub data_prefix : List ℕ
data_prefix = codes "data-"

abbrev pub changes_prefix : List ℕ
changes_prefix = codes "changelog-"

abbrev pub suffix : List ℕ
suffix = codes ".avro"

-- the files of rows: each has the next rows, as many as the limit or all that are left, and the next name
abbrev pub AreFilesOf : TableSchema → ℕ → ℕ → Naming → List Stamped → List RunFile → Type 0
AreFilesOf s limit level names rows [] = rows ≡ []
AreFilesOf s limit level names rows (f ∷ files) = (1 ≤ length rows)
    × IsFileWith s level names.session (name_of data_prefix suffix names) (take limit rows) f
    × AreFilesOf s limit level (counted names) (drop limit rows) files

-- the keys of rows rise
abbrev pub AreRising : List Stamped → Type 0
AreRising rows = IsStrictlySortedBy key_cmp (keys_of rows)

-- the files of a run have these rows, joined
abbrev pub HaveRows : TableSchema → List (List ℕ) → List Stamped → Type 0
HaveRows s [] rows = rows ≡ []
HaveRows s (bytes ∷ files) rows = (first : List Stamped) × (later : List Stamped) × (rows ≡ first ++ later)
    × HasRows s false bytes first × HaveRows s files later

-- the rows of a run: those of its files joined, whose keys rise
pub record IsRun (s : TableSchema) (files : List (List ℕ)) (rows : List Stamped) : Type 0 where
  pub have : HaveRows s files rows
  pub rising : AreRising rows

-- the bytes of files
abbrev pub bytes_of : List RunFile → List (List ℕ)
bytes_of files = map (λ (f : RunFile). f.bytes) files

-- ---- a changelog

-- a row that fits, with its own key beside it
pub record HasOwnKey (s : TableSchema) (x : Stamped) : Type 0 where
  pub fits : Fits s.columns x.row
  pub own : x.key ≡ key_of (primary_of s) x.row

-- the sequence numbers count the rows, from a number on
abbrev pub CountFrom : ℕ → List Stamped → Type 0
CountFrom n [] = Unit {0}
CountFrom n (x ∷ rows) = (x.seq ≡ n) × CountFrom (n + 1) rows
