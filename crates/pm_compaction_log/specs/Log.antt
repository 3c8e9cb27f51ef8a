-- The log of a compaction, as it is made of the rows of its newer runs.
use Rattle.std.specs.Prelude.{◌≡◌, List, Ok, Err, Option, reverse}
use Rattle.std.specs.List.{AllByRecursion}
use Rattle.pm_values.specs.Order.{Values}
use Rattle.pm_values.specs.declared.record.Change.{Change}
use Rattle.pm_values.specs.declared.record.Stamped.{Stamped}
use Rattle.pm_values.specs.declared.refusal.Refusal.{Refusal}
use Rattle.pm_schema.specs.declared.schema.TableSchema.{TableSchema}
use Rattle.pm_model_changelog.specs.Log.{log_of}
use Rattle.pm_engine.specs.Covers.{Run}
use Rattle.pm_engine.specs.Meaning.{Meaning}
use Rattle.pm_engine.specs.OfSchema.{meaning_of}
use Rattle.pm_engine.specs.declared.stored.Stored.{Stored}
use Rattle.pm_merge.specs.Merge.{AreStored}
use Rattle.pm_merge.specs.Merging.{GivesAll, GivesLeast, HaveNoRow}
use Rattle.pm_merge.specs.Source.{Rest}
use Rattle.pm_changelog.specs.GroupLog.{IsGroupLog}
use Rattle.pm_lookup.specs.File.{SeenFile}
use Rattle.pm_lookup.specs.Lookup.{AreRunsWith, IsOldValue, all_files}
use Rattle.pm_compaction_log.specs.Older.{FindsOlder}
use Rattle.pm_compaction_log.specs.Told.{IsOneOf}

-- Of stored rows of a table, those of older runs and those of newer ones that are put upon them, each list with its
-- oldest run first, this is the log.
abbrev pub IsLogUpon : TableSchema → List Run → List Run → List Change → Type 0
IsLogUpon s older newer log =
    AreStored (meaning_of s) older → AreStored (meaning_of s) newer → IsGroupLog s (log_of s older newer) log

-- files of runs, the newest first, that have the rows of these, the oldest first
abbrev pub AreFilesWith : TableSchema → List SeenFile → List Run → Type 0
AreFilesWith s files older = (runs : List (List SeenFile)) × (rows : List Run) × (files ≡ all_files runs)
    × AreRunsWith s runs rows × (older ≡ reverse rows)

-- the old value of each row's key was found
abbrev pub HaveOldValues : Meaning → TableSchema → List SeenFile → Run → Type 0
HaveOldValues m s files rows =
    AllByRecursion (λ (x : Stamped). (old : Option Stored) × IsOldValue m s x.key files (Ok old)) rows

-- of a key the stored row of the older runs: what was looked up in those under the others, and upon it what was read of
-- those beside the newer ones, of which this is left
abbrev pub FindsBoth : Meaning → TableSchema → List SeenFile → Values → List Rest → Option Stored → List Rest → Type 0
FindsBoth m s files key rests old left = (far near : Option Stored) × IsOldValue m s key files (Ok far)
    × FindsOlder m key rests near left × IsOneOf m far near old

-- these rows were given, and the old values of their keys were found
pub record HasLooked (m : Meaning) (s : TableSchema) (files : List SeenFile) (rests : List Rest) (run : Run)
    (left : List Rest) : Type 0 where
  pub gave : GivesAll m rests run left
  pub found : HaveOldValues m s files run

-- all rows were given, and the old values of their keys were found
abbrev pub LooksForAll : Meaning → TableSchema → List SeenFile → List Rest → Type 0
LooksForAll m s files rests =
    (run : Run) × (left : List Rest) × HasLooked m s files rests run left × HaveNoRow left

-- The refusal that comes first is that of the old value of the key of the row that is given next.
abbrev pub RefusesLooking : Meaning → TableSchema → List SeenFile → List Rest → Refusal → Type 0
RefusesLooking m s files rests e = (run : Run) × (left : List Rest) × HasLooked m s files rests run left
    × (x : Stamped) × (later : List Rest) × GivesLeast m left x later × IsOldValue m s x.key files (Err e)
