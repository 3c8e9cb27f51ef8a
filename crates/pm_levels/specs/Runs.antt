-- The runs of a group's files, newest first.
use Rattle.std.specs.Prelude.{◌≡◌, ◌≢◌, ℕ, ◌<◌, ◌≤◌, ◌⊎◌, Bool, ◌&&◌, ◌==◌, nat_lt, None, IfSome}
use Rattle.std.specs.Prelude.{List, [], ◌∷◌, ◌++◌, length, Contains}
use Rattle.std.specs.List.{AllByRecursion, flat_map, last_or}
use Rattle.std.specs.List.Sorted.{IsPermutation, IsSorted}
use Rattle.pm_values.specs.declared.file_meta.FileMeta.{FileMeta}
use Rattle.pm_levels.specs.declared.runs.RunFiles.{RunFiles}
use Rattle.pm_levels.specs.Order.{file_cmp}

-- a run: its level, and its files
pub record RunView : Type 0 where
  pub level : ℕ
  pub files : List FileMeta

abbrev pub run_of : RunFiles → RunView
run_of run = record { level = run.level; files = run.files.items }

-- the files of all runs, in their order
abbrev pub files_of : List RunView → List FileMeta
files_of runs = flat_map (λ (run : RunView). run.files) runs

-- all files of a run are of its level: at level 0 it is one file, above it at least one
pub record IsRun (run : RunView) : Type 0 where
  pub own : AllByRecursion (λ (file : FileMeta). file.level ≡ run.level) run.files
  pub some : 0 < length run.files
  pub alone : run.level ≡ 0 → length run.files ≡ 1

-- each run is of a lower level than those after it, but at level 0 there may be several
abbrev pub LevelsRise : List RunView → Type 0
LevelsRise [] = Unit {0}
LevelsRise (run ∷ older) =
    AllByRecursion (λ (other : RunView). (run.level < other.level) ⊎ ((run.level ≡ 0) × (other.level ≡ 0))) older
    × LevelsRise older

-- The runs of the files, newest first. Each file stands in one of them, once. Those of level 0 are by falling greatest
-- sequence number, the others by rising level, the files of a run by rising least key; what is equal is by rising name.
pub record AreRuns (files : List FileMeta) (runs : List RunView) : Type 0 where
  pub whole : IsPermutation files (files_of runs)
  pub order : IsSorted file_cmp (files_of runs)
  pub each : AllByRecursion IsRun runs
  pub levels : LevelsRise runs

-- at most one run, at that level, with its files in their order
pub record AreMadeAt (out : ℕ) (made : List RunView) : Type 0 where
  pub one : length made ≤ 1
  pub each : AllByRecursion (λ (run : RunView). IsRun run × (run.level ≡ out)) made
  pub order : IsSorted file_cmp (files_of made)

-- Of the runs of the files some that stand together make place for those made at a level. What is newer than these is
-- below the level, and what is older is above it.
pub record MakePlace (files : List FileMeta) (later taken made older : List RunView) (out : ℕ) : Type 0 where
  pub were : AreRuns files (later ++ (taken ++ older))
  pub are_made : AreMadeAt out made
  pub below : AllByRecursion (λ (run : RunView). run.level < out) later
  pub above : AllByRecursion (λ (run : RunView). out < run.level) older

-- two of the items of a list, at whatever indices
abbrev pub AreTwoOf : {X : Type 0} → X → X → List X → Type 0
AreTwoOf {X} a b items = (rest : List X) × IsPermutation items (a ∷ b ∷ rest)

-- no two files of one level have one name
abbrev pub AreNamedApart : List FileMeta → Type 0
AreNamedApart files = (a b : FileMeta) → AreTwoOf a b files → a.level ≡ b.level → a.name ≢ b.name

-- the run of one file
abbrev pub lone : FileMeta → RunView
lone file = record { level = file.level; files = file ∷ [] }

-- the file is at level 0, and its greatest sequence number is above those of the other files there
pub record IsNewerThan (file : FileMeta) (files : List FileMeta) : Type 0 where
  pub level : file.level ≡ 0
  pub above : (other : FileMeta) → Contains files other → other.level ≡ 0 → other.max_seq < file.max_seq

-- Private: the last run, if there is one, is of another level than the file, or both are at level 0
abbrev pub EndsApart : List RunView → FileMeta → Type 0
EndsApart runs file = IfSome (last_or None runs) (λ (run : RunView). run.level ≡ file.level → file.level ≡ 0)

-- Private: the file goes to the run: both are of one level above 0
abbrev pub goes_on : RunView → FileMeta → Bool
goes_on run file = (run.level == file.level) && nat_lt 0 file.level

-- Private: a run with one file more
abbrev pub longer : RunView → FileMeta → RunView
longer run file = record { level = run.level; files = run.files ++ file ∷ [] }

-- Private: what one file more makes of the runs of the files before it
pub data Puts (old : List RunView) (file : FileMeta) : List RunView → Type 0 where
  -- it begins a run
  begins : EndsApart old file → Puts old file (old ++ lone file ∷ [])
  -- it goes to the last run
  joins : (others : List RunView) (last : RunView) → old ≡ others ++ last ∷ [] → last.level ≡ file.level
      → file.level ≢ 0 → Puts old file (others ++ longer last file ∷ [])
