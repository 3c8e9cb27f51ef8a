-- What a reader of files has collected, and what one file more makes of it.
use Rattle.std.specs.Prelude.{◌≡◌, ℕ, Bool, true, false, List, [], ◌∷◌, ◌++◌, All, None, Some, Ok, Err, reverse}
use Rattle.std.specs.FinMap as map
use Rattle.pm_values.specs.declared.record.Stamped.{Stamped}
use Rattle.pm_values.specs.declared.refusal.Refusal.{Refusal}
use Rattle.pm_store.specs.Files.{Files}
use Rattle.pm_schema.specs.declared.schema.TableSchema.{TableSchema}
use Rattle.pm_engine.specs.Covers.{IsRising, Run}
use Rattle.pm_run.specs.Order.{last_key}
use Rattle.pm_run.specs.Reader.{OpensRun, RunView as ReaderView}
use Rattle.pm_run.specs.Rows.{Follow}
use Rattle.pm_scan_rows.specs.Group.{GroupRead, runs_read}
use Rattle.pm_group_files.specs.declared.job.Ends.{Ends}
use Rattle.pm_group_files.specs.declared.job.Ends.TheVariants as ends
use Rattle.pm_group_files.specs.declared.job.Job.{Job}

-- of a table: the groups that are whole, each with its runs that were read, the oldest first, and the files that are
-- kept of it; of the group in hand the runs that were read whole, newest first, and the files that are kept; and the
-- rows of the files that were read of the run in hand
pub record Collected : Type 0 where
  pub schema : TableSchema
  pub groups : List GroupRead
  pub runs : List Run
  pub kept : List (List ℕ)
  pub rows : Run

abbrev pub collected_of : TableSchema → List GroupRead → List Run → List (List ℕ) → Run → Collected
collected_of s groups runs kept rows =
    record { schema = s; groups = groups; runs = runs; kept = kept; rows = rows }

-- nothing is collected yet
abbrev pub nothing_of : TableSchema → Collected
nothing_of s = collected_of s [] [] [] []

-- without the groups that are whole
abbrev pub without_groups : Collected → Collected
without_groups c = record c { groups = [] }

-- with groups before those that are whole
abbrev pub with_groups : List GroupRead → Collected → Collected
with_groups groups c = record c { groups = groups ++ c.groups }

-- with rows in the place of those of the run in hand
abbrev pub with_rows : Run → Collected → Collected
with_rows rows c = record c { rows = rows }

-- with one file more that is kept
abbrev pub with_kept : List ℕ → Collected → Collected
with_kept bytes c = record c { kept = c.kept ++ bytes ∷ [] }

-- the run in hand ends
abbrev pub run_closed : Collected → Collected
run_closed c = record c { runs = c.runs ++ c.rows ∷ []; rows = [] }

-- the group in hand ends, in which no run is: its runs stand with the oldest first then
abbrev pub group_closed : Collected → Collected
group_closed c = record c {
  groups = c.groups ++ record { runs = reverse c.runs; kept = c.kept } ∷ [];
  runs = [];
  kept = [];
}

-- all runs rise
pub record AreRisingIn (c : Collected) : Type 0 where
  pub groups : All (All IsRising) (runs_read c.groups)
  pub runs : All IsRising c.runs
  pub rows : IsRising c.rows

-- a file that was read ends, and with it its run, or with that its group
abbrev pub Closes : Ends → Collected → Collected → Type 0
Closes ends.File old new = new ≡ old
Closes ends.Run old new = new ≡ run_closed old
Closes ends.Group old new = new ≡ group_closed (run_closed old)

-- a file that is kept ends, and with it its group, or nothing: its run isn't one of those that are read
abbrev pub ClosesKept : Ends → Collected → Collected → Type 0
ClosesKept ends.Group old new = new ≡ group_closed old
ClosesKept other old new = new ≡ old

-- the file with these bytes has these rows, which follow those before them in the run
abbrev pub HasMore : TableSchema → Job → List ℕ → Run → List Stamped → Type 0
HasMore s job bytes before more = (v : ReaderView) × OpensRun s false job.schema_id job.path bytes (Ok v)
    × Follow v.opened v.opened.file.first (last_key None before) more None

-- why its rows are refused, where memory doesn't run out: it isn't opened, or this refusal comes after some rows
pub data RefusesFile (s : TableSchema) (job : Job) (bytes : List ℕ) (before : Run) (refusal : Refusal) : Type 0 where
  unopened : OpensRun s false job.schema_id job.path bytes (Err refusal) → RefusesFile s job bytes before refusal
  misread : (v : ReaderView) (more : List Stamped) → OpensRun s false job.schema_id job.path bytes (Ok v)
      → Follow v.opened v.opened.file.first (last_key None before) more (Some refusal)
      → RefusesFile s job bytes before refusal

-- a file of these bytes is read: its rows are put to those of its run, and what ends with it is closed
abbrev pub TakesRows : Job → List ℕ → Collected → Collected → Type 0
TakesRows job bytes old new = (more : List Stamped) × HasMore old.schema job bytes old.rows more
    × Closes job.ends (with_rows (old.rows ++ more) old) new

-- it is read so, or it is one that is kept, whatever its bytes are
abbrev pub TakesWhere : Bool → Job → List ℕ → Collected → Collected → Type 0
TakesWhere false job bytes old new = TakesRows job bytes old new
TakesWhere true job bytes old new = ClosesKept job.ends (with_kept bytes old) new

abbrev pub Takes : Job → List ℕ → Collected → Collected → Type 0
Takes job bytes old new = TakesWhere job.kept job bytes old new

-- why a file with these bytes is refused, where memory doesn't run out: one that is kept isn't judged
abbrev pub RefusesWhere : Bool → TableSchema → Job → List ℕ → Run → Refusal → Type 0
RefusesWhere false s job bytes before refusal = RefusesFile s job bytes before refusal
RefusesWhere true s job bytes before refusal = ⊥

abbrev pub RefusesJob : TableSchema → Job → List ℕ → Run → Refusal → Type 0
RefusesJob s job bytes before refusal = RefusesWhere job.kept s job bytes before refusal

-- what the files at these paths make of what was collected, one after another
abbrev pub HaveTaken : Files → List Job → Collected → Collected → Type 0
HaveTaken f [] old new = new ≡ old
HaveTaken f (job ∷ jobs) old new = (bytes : List ℕ) × (middle : Collected) × (map.get f job.path ≡ Some bytes)
    × Takes job bytes old middle × HaveTaken f jobs middle new
