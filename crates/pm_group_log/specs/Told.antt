-- What a compaction tells of a chosen group, by the rows and the files that were read of it.
use Rattle.std.specs.Prelude.{◌≡◌, ℕ, ◌≤◌, nat_lt, Bool, true, false, not, if◌then◌else◌}
use Rattle.std.specs.Prelude.{List, [], ◌∷◌, ◌++◌, drop, map, reverse, take}
use Rattle.std.specs.List.{AllByRecursion}
use Rattle.pm_values.specs.declared.file_meta.FileMeta.{FileMeta}
use Rattle.pm_values.specs.declared.group.Group.{Group}
use Rattle.pm_values.specs.declared.record.Change.{Change}
use Rattle.pm_values.specs.declared.refusal.Refusal.{Refusal}
use Rattle.pm_options.specs.declared.kinds.Producer.{Producer}
use Rattle.pm_options.specs.declared.kinds.Producer.TheVariants as producers
use Rattle.pm_schema.specs.declared.schema.TableSchema.{TableSchema}
use Rattle.pm_engine.specs.Covers.{Run}
use Rattle.pm_engine.specs.OfSchema.{meaning_of}
use Rattle.pm_merge.specs.Merge.{AreStored}
use Rattle.pm_merge.specs.Merging.{rests_of}
use Rattle.pm_levels.specs.Runs.{RunView, files_of}
use Rattle.pm_model_contents.specs.Runs.{data_path}
use Rattle.pm_runs.specs.Stand.{top_of}
use Rattle.pm_runs.specs.Succession.{KnownRun, from_oldest}
use Rattle.pm_model_folder.specs.Runs.{view_of}
use Rattle.pm_lookup.specs.File.{SeenFile}
use Rattle.pm_scan_rows.specs.Group.{GroupRead}
use Rattle.pm_choice.specs.Choice.{IsChosen, left_runs, taken_runs}
use Rattle.pm_choice.specs.Question.{rule_of}
use Rattle.pm_choice.specs.declared.choice.ChosenGroup.{ChosenGroup}
use Rattle.pm_compaction_log.specs.Log.{AreFilesWith, IsLogUpon, LooksForAll, RefusesLooking}

-- ---- which rows are new to those who follow the table

-- from which level on runs have rows that were told before: with full compactions the highest, with look-ups the first
-- above level 0
abbrev pub first_told : Producer → TableSchema → ℕ
first_told producers.FullCompaction s = top_of s
first_told other s = 1

-- the level is below a first one, or it isn't
abbrev pub is_side : Bool → ℕ → ℕ → Bool
is_side true first level = nat_lt level first
is_side false first level = not (nat_lt level first)

-- of runs with their rows the rows of those whose level is such
abbrev pub rows_where : (ℕ → Bool) → List RunView → List Run → List Run
rows_where such [] rows = []
rows_where such (run ∷ runs) [] = []
rows_where such (run ∷ runs) (own ∷ rows) =
    if such run.level then own ∷ rows_where such runs rows else rows_where such runs rows

-- of the runs that go those below the first level of what was told, or the others, the oldest first
abbrev pub side_of : Bool → TableSchema → ChosenGroup → GroupRead → List Run
side_of below s c x =
    rows_where (is_side below (first_told s.options.producer s)) (reverse (taken_runs c)) x.runs

abbrev pub newer_rows : TableSchema → ChosenGroup → GroupRead → List Run
newer_rows s c x = side_of true s c x

abbrev pub older_rows : TableSchema → ChosenGroup → GroupRead → List Run
older_rows s c x = side_of false s c x

-- ---- the files in which old values are looked up

-- files of a group with their bytes, as far as these go
abbrev pub files_with : TableSchema → Group → List FileMeta → List (List ℕ) → List SeenFile
files_with s g [] kept = []
files_with s g (m ∷ ms) [] = []
files_with s g (m ∷ ms) (bytes ∷ kept) =
    record { path = data_path s g m.name; meta = m; bytes = bytes } ∷ files_with s g ms kept

-- those of the runs that stay
abbrev pub looked_files : TableSchema → ChosenGroup → GroupRead → List SeenFile
looked_files s c x = files_with s c.group (files_of (left_runs c)) x.kept

-- ---- the log

-- With look-ups the old value of each key with a new row was looked up in the runs that stay, and the log is that of
-- the newer rows upon these runs and the older ones of those that go. With full compactions it is that of the newer
-- rows upon the older ones, where all runs go. Else nothing is told.
abbrev pub TellsBy : Producer → Bool → TableSchema → ChosenGroup → GroupRead → List Change → Type 0
TellsBy producers.Lookup whole s c x log =
    LooksForAll (meaning_of s) s (looked_files s c x) (rests_of (newer_rows s c x))
    × ((old : List Run) → AreFilesWith s (looked_files s c x) old
    → IsLogUpon s (old ++ older_rows s c x) (newer_rows s c x) log)
TellsBy producers.FullCompaction true s c x log = IsLogUpon s (older_rows s c x) (newer_rows s c x) log
TellsBy other whole s c x log = log ≡ []

abbrev pub IsToldOf : TableSchema → ChosenGroup → GroupRead → List Change → Type 0
IsToldOf s c x log = TellsBy s.options.producer c.whole s c x log

-- why nothing can be told, where memory doesn't run out: a file is looked in that doesn't read
abbrev pub RefusesBy : Producer → TableSchema → ChosenGroup → GroupRead → Refusal → Type 0
RefusesBy producers.Lookup s c x e =
    RefusesLooking (meaning_of s) s (looked_files s c x) (rests_of (newer_rows s c x)) e
RefusesBy other s c x e = ⊥

abbrev pub RefusesTelling : TableSchema → ChosenGroup → GroupRead → Refusal → Type 0
RefusesTelling s c x e = RefusesBy s.options.producer s c x e

-- ---- of runs that are known

-- A group was chosen of its runs as they are known at a snapshot, stored rows of the table at levels up to the highest.
-- The rows that were read are those of the runs that go, and with look-ups the files that were kept have the rows of
-- those that stay.
pub record IsKnownAs (s : TableSchema) (c : ChosenGroup) (x : GroupRead) (known : List KnownRun) : Type 0 where
  pub chosen : IsChosen (rule_of s) c
  pub levels : c.levels ≡ map view_of known
  pub within : AllByRecursion (λ (run : KnownRun). run.level ≤ top_of s) known
  pub stored : AreStored (meaning_of s) (from_oldest known)
  pub read : x.runs ≡ from_oldest (take c.take known)
  pub kept : s.options.producer ≡ producers.Lookup
      → AreFilesWith s (looked_files s c x) (from_oldest (drop c.take known))
