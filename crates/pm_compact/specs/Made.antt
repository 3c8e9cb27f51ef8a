-- What a compaction's files are as a run of its group.
use Rattle.std.specs.Prelude.{◌≡◌, ◌≢◌, ℕ, ◌≤◌, List, [], ◌∷◌, Bool, true, map, false}
use Rattle.pm_values.specs.declared.file_meta.FileMeta.{FileMeta}
use Rattle.pm_engine.specs.Covers.{Run}
use Rattle.pm_engine.specs.Meaning.{Meaning}
use Rattle.pm_run.specs.declared.run.RunFile.{RunFile}
use Rattle.pm_runs.specs.Succession.{KnownRun, TakeOldestPlace, TakePlace, unless_empty}
use Rattle.pm_compact.specs.Rewritten.{most_in_file}

-- what is known of files
abbrev pub metas_of : List RunFile → List FileMeta
metas_of files = map (λ (f : RunFile). f.meta) files

-- the run that the files of rows are, at a level, with rows of entries up to the newest; no files are none
abbrev pub made_run : ℕ → ℕ → Run → List RunFile → List KnownRun
made_run level newest run [] = []
made_run level newest run (f ∷ files) =
    (record { level = level; files = metas_of (f ∷ files); newest = newest; rows = run }) ∷ []

-- the run has these files, some, with these rows, at the level
pub record IsRunOf (level newest : ℕ) (run : Run) (files : List RunFile) (known : KnownRun) : Type 0 where
  pub level_is : known.level ≡ level
  pub newest_is : known.newest ≡ newest
  pub rows_are : known.rows ≡ run
  pub files_are : known.files ≡ metas_of files
  pub some : known.files ≢ []

-- the run takes the place of the runs; without the droppable rows it does so where none is older
abbrev pub TakesPlace : Meaning → Bool → List Run → Run → Type 0
TakesPlace m false runs run = TakePlace m runs (unless_empty run)
TakesPlace m true runs run = TakeOldestPlace m runs (unless_empty run)

-- a file tells its level, and that it has some rows and no more than it may
pub record IsMadeAt (level : ℕ) (f : RunFile) : Type 0 where
  pub level_is : f.meta.level ≡ level
  pub some : 1 ≤ f.meta.rows
  pub most : f.meta.rows ≤ most_in_file
