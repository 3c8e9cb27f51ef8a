-- A scanner: its phases, its calls, and what each answer leads to.
use Rattle.std.specs.Prelude.{◌≡◌, ◌⊎◌, ℕ, ◌+◌, ◌<◌, ◌≤◌, length, List, Option, None, Vec}
use Rattle.std.specs.BTreeMap.{IsOrdered}
use Rattle.std.specs.Global.{Global}
use Rattle.pm_values.specs.GroupOrder.{group_cmp}
use Rattle.pm_values.specs.declared.refusal.Refusal.{Refusal}
use Rattle.pm_values.specs.declared.refusal.Refusal.TheVariants as refusals
use Rattle.pm_store.specs.declared.answer.Answer.{Answer}
use Rattle.pm_store.specs.declared.call.Call.{Call}
use Rattle.pm_engine.specs.OfSchema.{meaning_of}
use Rattle.pm_engines.specs.TableEngine.{HasEngine}
use Rattle.pm_scan_rows.specs.Group.{runs_read}
use Rattle.pm_scan_rows.specs.Shown.{PrintsGroups}
use Rattle.pm_read_table.specs.Reader as reader
use Rattle.pm_read_table.specs.Reader.{most, FailsToOpen, OfSchema, WithReader}
use Rattle.pm_read_table.specs.declared.phase.Phase as view_phase
use Rattle.pm_read_table.specs.declared.view.View.{View}
use Rattle.pm_group_files.specs.Collected.{Collected, nothing_of}
use Rattle.pm_group_files.specs.declared.job.Job.{Job}
use Rattle.pm_group_files.specs.Jobs.{all_jobs}
use Rattle.pm_group_files.specs.Reader as files
use Rattle.pm_group_files.specs.Reader.{OfTable, read_next}
use Rattle.pm_group_files.specs.declared.phase.Phase as files_phase
use Rattle.pm_group_files.specs.declared.phase.Phase.TheVariants as readers
use Rattle.pm_scan.specs.Rows.{groups_of}
use Rattle.pm_scan.specs.declared.phase.Phase.{Phase}
use Rattle.pm_scan.specs.declared.phase.Phase.TheVariants as phases
use Rattle.pm_scan.specs.declared.rows.Rows.{Rows}

-- ---- its calls

-- its next call, or none at its end
abbrev pub next_call : Phase → Option Call
next_call (phases.View rows m) = reader.next_call m
next_call (phases.Files rows id m) = files.next_call m
next_call (phases.Ready rows id text) = None
next_call phases.Over = None

-- how many calls are left at most, where no refusal comes
abbrev pub calls_left : Phase → ℕ
calls_left (phases.View rows m) = reader.calls_left m + (most + 2)
calls_left (phases.Files rows id m) = files.calls_left m
calls_left (phases.Ready rows id text) = 0
calls_left phases.Over = 0

-- the table that a reader of a view reads has an engine
abbrev pub IsEngineOf : view_phase.Phase → Type 0
IsEngineOf m = OfSchema HasEngine m

-- a scanner: the reader of its view has a call left, and the table has an engine
abbrev pub IsScanner : Phase → Type 0
IsScanner (phases.View rows m) = (0 < reader.calls_left m) × IsEngineOf m
IsScanner (phases.Files rows id m) = OfTable HasEngine m
IsScanner other = Unit {0}

-- the text is there to be taken
abbrev pub IsReady : Phase → Type 0
IsReady (phases.Ready rows id text) = Unit {0}
IsReady other = ⊥

-- ---- what answers lead to

-- with this reader of files: it reads on, or all were read, and the text is what their groups print
abbrev pub AfterFiles : Rows → ℕ → files_phase.Phase → Phase → Type 0
AfterFiles rows id (readers.Ready c) later =
    (text : Vec ℕ Global) × PrintsGroups (meaning_of c.schema) (runs_read c.groups) text.items
    × (later ≡ phases.Ready rows id text)
AfterFiles rows id m later = later ≡ phases.Files rows id m

-- the files of a view that have the rows
abbrev pub jobs_of : Rows → View → List Job
jobs_of rows v = all_jobs v.schema (groups_of rows v.schema v.groups.entries)

-- once the view is ready, they are to be read
abbrev pub Starts : Rows → View → Phase → Type 0
Starts rows v later =
    IsOrdered group_cmp v.groups × (length (jobs_of rows v) ≤ most)
    × AfterFiles rows v.id (read_next v.id (nothing_of v.schema) (jobs_of rows v)) later

abbrev pub AfterReader : Rows → view_phase.Phase → Phase → Type 0
AfterReader rows m later = WithReader (λ m. phases.View rows m) (Starts rows) m later

-- the phase after an answer that it goes on with
abbrev pub Goes : Phase → Answer → Phase → Type 0
Goes (phases.View rows m) answer later =
    (new : view_phase.Phase) × reader.Goes m answer new × AfterReader rows new later
Goes (phases.Files rows id m) answer later =
    (new : files_phase.Phase) × files.Goes m answer new × AfterFiles rows id new later
Goes phase other later = ⊥

-- memory ran out where the groups were to be printed
abbrev pub FailsToPrint : files_phase.Phase → Answer → Refusal → Type 0
FailsToPrint m answer refusal = (refusal ≡ refusals.Memory) × (c : Collected) × files.Goes m answer (readers.Ready c)

-- The refusal that an answer shows, but for memory, which may run out too where the view is opened and where the text
-- is printed: one of the view's reader, or of the files'.
abbrev pub Shown : Phase → Answer → Refusal → Type 0
Shown (phases.View rows m) answer refusal = FailsToOpen IsEngineOf m answer refusal ⊎ reader.Shown m answer refusal
Shown (phases.Files rows id m) answer refusal = FailsToPrint m answer refusal ⊎ files.Shown m answer refusal
Shown phase other refusal = ⊥
