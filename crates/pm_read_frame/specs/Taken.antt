-- The changelog files of a snapshot, and the rows that are read of them.
use Rattle.std.specs.Prelude.{◌≡◌, ℕ, List, [], ◌∷◌, ◌++◌, map, None, Some, Ok, Err, true}
use Rattle.std.specs.FinMap as paths
use Rattle.pm_values.specs.declared.record.Stamped.{Stamped}
use Rattle.pm_values.specs.declared.refusal.Refusal.{Refusal}
use Rattle.pm_store.specs.Files.{Files}
use Rattle.pm_schema.specs.declared.schema.TableSchema.{TableSchema}
use Rattle.pm_run.specs.Reader.{OpensRun, RunView}
use Rattle.pm_run.specs.Rows.{Follow}
use Rattle.pm_manifest.specs.declared.entry.Entry.{Entry}
use Rattle.pm_model_contents.specs.Runs.{data_path}
use Rattle.pm_read_frame.specs.declared.file.ChangesFile.{ChangesFile}

-- the file of an entry
abbrev pub file_of : TableSchema → Entry → ChangesFile
file_of s e = record { path = data_path s e.group e.file.name; schema_id = e.file.schema_id }

-- those of a changelog's entries, in their order
abbrev pub files_of : TableSchema → List Entry → List ChangesFile
files_of s es = map (file_of s) es

-- the file with these bytes has these rows, which follow one another
abbrev pub IsReadAs : TableSchema → ChangesFile → List ℕ → List Stamped → Type 0
IsReadAs s file bytes rows = (v : RunView) × OpensRun s true file.schema_id file.path bytes (Ok v)
    × Follow v.opened v.opened.file.first None rows None

-- why its rows are refused, where memory doesn't run out: it isn't opened, or this refusal comes after some rows
pub data RefusesFile (s : TableSchema) (file : ChangesFile) (bytes : List ℕ) (refusal : Refusal) : Type 0 where
  unopened : OpensRun s true file.schema_id file.path bytes (Err refusal) → RefusesFile s file bytes refusal
  misread : (v : RunView) (rows : List Stamped) → OpensRun s true file.schema_id file.path bytes (Ok v)
      → Follow v.opened v.opened.file.first None rows (Some refusal) → RefusesFile s file bytes refusal

-- a file of these bytes is read: its rows are put to those before
abbrev pub Takes : TableSchema → ChangesFile → List ℕ → List Stamped → List Stamped → Type 0
Takes s file bytes old new = (rows : List Stamped) × IsReadAs s file bytes rows × (new ≡ old ++ rows)

-- what the rows of the files at these paths make of rows, one file after another
abbrev pub HaveTaken : Files → TableSchema → List ChangesFile → List Stamped → List Stamped → Type 0
HaveTaken f s [] old new = new ≡ old
HaveTaken f s (file ∷ files) old new = (bytes : List ℕ) × (middle : List Stamped)
    × (paths.get f file.path ≡ Some bytes) × Takes s file bytes old middle × HaveTaken f s files middle new
