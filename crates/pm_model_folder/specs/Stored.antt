-- The rows that files have, and when they stand for the rows of a history.
use Rattle.std.specs.Prelude.{◌≡◌, ◌≢◌, ◌⊎◌, ℕ, ◌<◌, ◌≤◌, List, [], ◌∷◌, ◌++◌, length, map}
use Rattle.std.specs.Prelude.{filter, Bool, true, false, Some, None}
use Rattle.std.specs.FinMap as paths
use Rattle.std.specs.List.{AllByRecursion, AllZip}
use Rattle.std.specs.Ordering.{eq_by_cmp}
use Rattle.pm_store.specs.Files.{Files}
use Rattle.pm_values.specs.GroupOrder.{group_cmp}
use Rattle.pm_values.specs.declared.file_meta.FileMeta.{FileMeta}
use Rattle.pm_values.specs.declared.group.Group.{Group}
use Rattle.pm_values.specs.declared.record.Stamped.{Stamped}
use Rattle.pm_model_history.specs.History.{Entry}
use Rattle.pm_model_history.specs.Merge.{HistoryRow}
use Rattle.pm_schema.specs.declared.schema.TableSchema.{TableSchema}
use Rattle.pm_engine.specs.Covers.{row_of}
use Rattle.pm_model_following.specs.Following.{change}
use Rattle.pm_model_following.specs.Groups.{rows_in}
use Rattle.pm_levels.specs.Runs.{AreTwoOf, RunView}
use Rattle.pm_manifest.specs.Live.{Live}
use Rattle.pm_manifest.specs.declared.entry.Entry as files
use Rattle.pm_model_contents.specs.Runs.{AreRunsOf, data_path}
use Rattle.pm_runs.specs.Stand.{StandForRows, StoredRun, top_of}
use Rattle.pm_run.specs.Order.{last_key}
use Rattle.pm_run.specs.Rows.{HasRows}
use Rattle.pm_run.specs.Writing.{AreRising, first_key, first_sequence, greatest_of, least_of}
use Rattle.pm_options.specs.declared.kinds.Producer.TheVariants as producers

-- ---- the rows of files

-- a file's entry bears what the file holds: how many rows, at least one, and the least and the greatest of their keys
-- and of their sequence numbers
pub record TellsRows (m : FileMeta) (rows : List Stamped) : Type 0 where
  pub count : m.rows ≡ length rows
  pub least : first_key rows ≡ Some m.min_key
  pub greatest : last_key None rows ≡ Some m.max_key
  pub lowest : m.min_seq ≡ least_of (first_sequence rows) rows
  pub highest : m.max_seq ≡ greatest_of (first_sequence rows) rows

-- a data file of a group, or a changelog file, is there, is of the table's schema, and has these rows, of which its
-- entry tells
pub record HasFile (f : Files) (s : TableSchema) (changes : Bool) (g : Group) (m : FileMeta) (rows : List Stamped)
    : Type 0 where
  pub bytes : List ℕ
  pub there : paths.get f (data_path s g m.name) ≡ Some bytes
  pub schema : m.schema_id ≡ s.id
  pub read : HasRows s changes bytes rows
  pub tells : TellsRows m rows

-- data files of a group have these rows, one file's after those of the one before
abbrev pub HaveFileRows : Files → TableSchema → Group → List FileMeta → List Stamped → Type 0
HaveFileRows f s g [] rows = rows ≡ []
HaveFileRows f s g (m ∷ ms) rows = (own : List Stamped) × (later : List Stamped) × (rows ≡ own ++ later)
    × HasFile f s false g m own × HaveFileRows f s g ms later

-- the files of a run of a group have these stored rows, whose keys rise
pub record HasRun (f : Files) (s : TableSchema) (g : Group) (run : RunView) (stored : StoredRun) : Type 0 where
  pub level : stored.level ≡ run.level
  pub files : HaveFileRows f s g run.files stored.rows
  pub rising : AreRising stored.rows

-- ---- a group

-- the files at level 0 have different sequence numbers: all of one are below all of the other
abbrev pub AreNumberedApart : List FileMeta → Type 0
AreNumberedApart ms = (a b : FileMeta) → AreTwoOf a b ms → a.level ≡ 0 → b.level ≡ 0
    → (a.max_seq < b.min_seq) ⊎ (b.max_seq < a.min_seq)

-- a group's live files at a snapshot are runs of at most the top level, and stand for the group's rows
pub record HasGroup (f : Files) (s : TableSchema) (entries : List Entry) (id : ℕ) (live : Live) (g : Group)
    : Type 0 where
  pub runs : List RunView
  pub own : AreRunsOf live g runs
  pub within : AllByRecursion (λ (run : RunView). run.level ≤ top_of s) runs
  pub numbered : AreNumberedApart own.files
  pub stored : List StoredRun
  pub read : AllZip (HasRun f s g) runs stored
  pub stand : StandForRows s entries id g stored

-- ---- the changelog

-- the entries of a group
abbrev pub entries_in : Group → List files.Entry → List files.Entry
entries_in g es = filter (λ (e : files.Entry). eq_by_cmp group_cmp e.group g) es

-- the changelog files of a group hold these rows: one file, or none where there is no row
abbrev pub HoldChanges : Files → TableSchema → Group → List files.Entry → List HistoryRow → Type 0
HoldChanges f s g [] rows = rows ≡ []
HoldChanges f s g (e ∷ []) rows =
    (stored : List Stamped) × HasFile f s true g e.file stored × (map row_of stored ≡ rows)
HoldChanges f s g es rows = ⊥

-- each changelog file is there; with a producer they hold the snapshot's change, each group's rows in its own file
pub record HoldsChange (f : Files) (s : TableSchema) (entries : List Entry) (id : ℕ) (es : List files.Entry)
    : Type 0 where
  pub each : AllByRecursion (λ (e : files.Entry). (rows : List Stamped) × HasFile f s true e.group e.file rows) es
  pub change : s.options.producer ≢ producers.None → (g : Group)
      → HoldChanges f s g (entries_in g es) (rows_in s g (change s entries id))
