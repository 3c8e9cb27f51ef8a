-- The own calls of a scanner, and what they show.
use Rattle.std.specs.Prelude.{◌≡◌, ◌⊎◌, ℕ, List, [], ◌++◌}
use Rattle.pm_values.specs.declared.refusal.Refusal.{Refusal}
use Rattle.pm_values.specs.declared.refusal.Refusal.TheVariants as refusals
use Rattle.pm_store.specs.declared.answer.Answer.{Answer}
use Rattle.pm_machine.specs.Trace.{Event, IsFailed, MayEnd}
use Rattle.pm_engine.specs.OfSchema.{meaning_of}
use Rattle.pm_scan_rows.specs.Group.{runs_read}
use Rattle.pm_scan_rows.specs.Shown.{PrintsGroups}
use Rattle.pm_read_table.specs.Asked.{Asked}
use Rattle.pm_read_table.specs.Reader as reader_machine
use Rattle.pm_read_table.specs.Trace as reader
use Rattle.pm_read_table.specs.Trace.{HasView}
use Rattle.pm_read_table.specs.declared.phase.Phase.TheVariants as readers
use Rattle.pm_read_table.specs.declared.view.View.{View}
use Rattle.pm_group_files.specs.Collected.{Collected}
use Rattle.pm_group_files.specs.Trace as files
use Rattle.pm_scan.specs.Asked.{AskedRows}
use Rattle.pm_scan.specs.Meaning.{all_of}
use Rattle.pm_scan.specs.Scanner.{next_call}
use Rattle.pm_scan.specs.declared.phase.Phase.{Phase}
use Rattle.pm_scan.specs.declared.phase.Phase.TheVariants as phases

-- ---- how far the calls have come

-- the view was read, and of the calls after that this holds
pub record AfterView (a : Asked) (v : View) (P : List Event → Type 0) (own : List Event) : Type 0 where
  pub first : List Event
  pub viewed : HasView a v first
  pub reads : List Event
  pub so : P reads
  pub is : own ≡ first ++ reads

-- all files of the view that have the rows were read, and the text is what they print
pub record HasScan (a : AskedRows) (id : ℕ) (text : List ℕ) (own : List Event) : Type 0 where
  pub view : View
  pub collected : Collected
  pub is_id : id ≡ view.id
  pub all_read : AfterView a.table view (files.HasPart (all_of a.rows view) collected []) own
  pub prints : PrintsGroups (meaning_of collected.schema) (runs_read collected.groups) text

-- ---- what they show

-- its calls so far, by its phase before its end, where this was asked
abbrev pub DidSoFar : AskedRows → Phase → List Event → Type 0
DidSoFar a (phases.View rows m) own = (rows ≡ a.rows) × reader.Did a.table m own
DidSoFar a (phases.Files rows id m) own = (v : View) × (rows ≡ a.rows) × (id ≡ v.id)
    × AfterView a.table v (files.DidSoFar (all_of a.rows v) m) own
DidSoFar a (phases.Ready rows id text) own = (rows ≡ a.rows) × HasScan a id text.items own
DidSoFar a phases.Over own = ⊥

-- what follows the answer may take memory: where the view is ready by it, or a data file was found
abbrev pub MayTakeMemory : Phase → Answer → Type 0
MayTakeMemory (phases.View rows m) answer = (v : View) × reader_machine.Goes m answer (readers.Ready v)
MayTakeMemory (phases.Files rows id m) answer = files.MayTakeMemory m answer
MayTakeMemory m answer = ⊥

-- which calls show a refusal, beside those of the view's reader: the view was read, and then those of its files do
abbrev pub ShowsOfFiles : AskedRows → Refusal → List Event → Type 0
ShowsOfFiles a refusals.Memory own = MayEnd next_call (DidSoFar a) MayTakeMemory own
ShowsOfFiles a (refusals.StoreFault path) own = IsFailed next_call (DidSoFar a) path own
ShowsOfFiles a other own = (v : View) × AfterView a.table v (files.Shows (all_of a.rows v) other) own

-- which calls show a refusal: what the reader of the view shows is shown
abbrev pub Shows : AskedRows → Refusal → List Event → Type 0
Shows a refusal own = reader.Shows a.table refusal own ⊎ ShowsOfFiles a refusal own

-- its calls so far, by its phase, where this was asked: at its end they show a refusal
abbrev pub Did : AskedRows → Phase → List Event → Type 0
Did a phases.Over own = (refusal : Refusal) × Shows a refusal own
Did a m own = DidSoFar a m own
