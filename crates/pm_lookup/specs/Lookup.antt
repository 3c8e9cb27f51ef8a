-- The old value of a key: the rows that the files have of it, the newest first, as one stored row.
use Rattle.std.specs.Prelude.{◌≡◌, ℕ, List, [], ◌∷◌, ◌++◌, map, filter, reverse, Option, Some, None, Result, Ok, Err}
use Rattle.std.specs.Prelude.{false, option_to_list}
use Rattle.std.specs.List.{AllByRecursion, AllZip, flat_map}
use Rattle.pm_values.specs.Order.{Values}
use Rattle.pm_values.specs.declared.file_meta.FileMeta.{FileMeta}
use Rattle.pm_values.specs.declared.record.Stamped.{Stamped}
use Rattle.pm_values.specs.declared.refusal.Refusal.{Refusal}
use Rattle.pm_schema.specs.declared.schema.TableSchema.{TableSchema}
use Rattle.pm_model_history.specs.Merge.{HistoryRow}
use Rattle.pm_engine.specs.Covers.{IsRising, Run}
use Rattle.pm_engine.specs.Meaning.{Meaning, SpeaksFor, stored_of}
use Rattle.pm_engine.specs.declared.stored.Stored.{Stored}
use Rattle.pm_merge.specs.Merging.{AreCombined}
use Rattle.pm_run.specs.Order.{last_key}
use Rattle.pm_run.specs.Reader.{UnlessMemory}
use Rattle.pm_run.specs.Rows.{HasRows}
use Rattle.pm_run.specs.Writing.{first_key}
use Rattle.pm_run.specs.declared.run.RunBytes.{RunBytes}
use Rattle.pm_lookup.specs.File.{IsFileFor, LooksIn, SeenFile, may_hold, seen}
use Rattle.pm_lookup.specs.declared.lookup.Lookup.{Lookup}

-- ---- the files

-- a file of a run, in the folder of its group
abbrev pub file_in : List ℕ → FileMeta × List ℕ → SeenFile
file_in folder f = record { path = folder ++ 47 ∷ f.0.name; meta = f.0; bytes = f.1 }

-- the files of a run in their order
abbrev pub files_in : RunBytes → List SeenFile
files_in run = map (file_in run.folder) run.files.items

-- those of all runs, one run's after another's
abbrev pub files_of : List RunBytes → List SeenFile
files_of runs = flat_map files_in runs

-- the files in which keys are looked for
abbrev pub looked_in : Lookup → List SeenFile
looked_in l = map seen l.files.items

-- no file was opened with another schema
abbrev pub IsFor : TableSchema → Lookup → Type 0
IsFor s l = AllByRecursion (IsFileFor s) l.files.items

-- ---- the old value

-- the files that are opened for a key: those whose range holds it
abbrev pub asked_for : Values → List SeenFile → List SeenFile
asked_for key files = filter (λ (f : SeenFile). may_hold key f.meta) files

-- each of the files was looked in, and has this row of the key or none
abbrev pub HaveOf : TableSchema → Values → List SeenFile → List (Option Stamped) → Type 0
HaveOf s key files found = AllZip (λ (f : SeenFile) (x : Option Stamped). LooksIn s f key (Ok x)) files found

-- the rows that were found, the oldest first
abbrev pub rows_found : List (Option Stamped) → Run
rows_found found = reverse (flat_map option_to_list found)

-- rows of a key, the oldest first, became one stored row; there is none where there are no rows
abbrev pub AreOne : Meaning → Run → Option Stamped → Type 0
AreOne m rows None = rows ≡ []
AreOne m rows (Some s) = AreCombined m rows s

-- what is kept of a row beside its key and its number
abbrev pub stored_part : Stamped → Stored
stored_part s = record { kind = s.kind; row = s.row }

abbrev pub old_part : Option Stamped → Option Stored
old_part None = None
old_part (Some s) = Some (stored_part s)

-- a file before which each was looked in answers the refusal
pub record RefusesAt (s : TableSchema) (key : Values) (files : List SeenFile) (e : Refusal) : Type 0 where
  pub before : List SeenFile
  pub file : SeenFile
  pub after : List SeenFile
  pub found : List (Option Stamped)
  pub split : files ≡ before ++ file ∷ after
  pub looked : HaveOf s key before found
  pub refuses : LooksIn s file key (Err e)

-- the files whose range holds the key were looked in, and the rows of it that they have are one stored row
pub record HaveOne (m : Meaning) (s : TableSchema) (key : Values) (files : List SeenFile) (one : Option Stamped)
    : Type 0 where
  pub found : List (Option Stamped)
  pub looked : HaveOf s key (asked_for key files) found
  pub combined : AreOne m (rows_found found) one

-- What the old value of a key is, of files, those of the newest run first: the rows that those have whose range holds
-- the key, as one stored row; or the refusal of the first of these that has one.
abbrev pub IsOldValue : Meaning → TableSchema → Values → List SeenFile → Result (Option Stored) Refusal → Type 0
IsOldValue m s key files (Ok old) = (one : Option Stamped) × HaveOne m s key files one × (old ≡ old_part one)
IsOldValue m s key files (Err e) = UnlessMemory e (RefusesAt s key (asked_for key files) e)

-- Private: one file more after those that were looked in, if its range holds the key; or its refusal, whatever files
-- come after it
abbrev pub LooksOn : Meaning → TableSchema → Values → List SeenFile → SeenFile → Result (Option Stamped) Refusal
    → Type 0
LooksOn m s key before file (Ok one) = HaveOne m s key (before ++ file ∷ []) one
LooksOn m s key before file (Err e) =
    (after : List SeenFile) → UnlessMemory e (RefusesAt s key (asked_for key (before ++ file ∷ after)) e)

-- ---- of which rows it is the stored one

-- what is known of a file bears the least and the greatest of the keys of its rows, of which there is one at least
pub record BearsKeys (meta : FileMeta) (rows : Run) : Type 0 where
  pub least : first_key rows ≡ Some meta.min_key
  pub greatest : last_key None rows ≡ Some meta.max_key

-- a file of the schema in hand that has the rows and bears their keys
pub record HoldsRows (s : TableSchema) (f : FileMeta × List ℕ) (rows : Run) : Type 0 where
  pub schema : f.0.schema_id ≡ s.id
  pub has : HasRows s false f.1 rows
  pub bears : BearsKeys f.0 rows

-- a run whose files have these rows, one file's after another's, and the keys of all rise
pub record IsRunWith (s : TableSchema) (run : List SeenFile) (rows : Run) : Type 0 where
  pub each : List Run
  pub files : AllZip (λ (f : SeenFile) (own : Run). HoldsRows s (f.meta, f.bytes) own) run each
  pub joined : rows ≡ flat_map (λ (own : Run). own) each
  pub rising : IsRising rows

-- the files of runs, one run's after another's
abbrev pub all_files : List (List SeenFile) → List SeenFile
all_files runs = flat_map (λ (run : List SeenFile). run) runs

-- runs, each by its files, with their rows
abbrev pub AreRunsWith : TableSchema → List (List SeenFile) → List Run → Type 0
AreRunsWith s runs rows = AllZip (IsRunWith s) runs rows

-- the stored row of a key's rows: it speaks for them, and is what they are worth; there is none where there are no rows
abbrev pub IsStoredRow : Meaning → Values → List HistoryRow → Option Stored → Type 0
IsStoredRow m key rows None = rows ≡ []
IsStoredRow m key rows (Some v) = SpeaksFor m key (v.kind, v.row) rows × ((v.kind, v.row) ≡ stored_of m rows)
