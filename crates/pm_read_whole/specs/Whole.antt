-- A reader of a whole view: its phases, its calls, and what each answer leads to.
use Rattle.std.specs.Prelude.{◌≡◌, ◌⊎◌, ℕ, ◌+◌, ◌<◌, ◌≤◌, List, [], Option, None, Some}
use Rattle.pm_values.specs.declared.refusal.Refusal.{Refusal}
use Rattle.pm_store.specs.declared.answer.Answer.{Answer}
use Rattle.pm_store.specs.declared.call.Call.{Call}
use Rattle.pm_snapshot.specs.declared.snapshot.Snapshot.{Snapshot}
use Rattle.pm_read_table.specs.Asked.{Asked}
use Rattle.pm_read_log.specs.Log.{log_asked_of}
use Rattle.pm_read_table.specs.View.{HaveGroups}
use Rattle.pm_read_log.specs.LogReader as log
use Rattle.pm_read_log.specs.LogReader.{Opens}
use Rattle.pm_read_table.specs.Named.{named_paths, parts_of}
use Rattle.pm_read_table.specs.Reader as reader
use Rattle.pm_read_table.specs.Reader.{most, FailsToOpen, WithReader}
use Rattle.pm_read_table.specs.declared.asked.Wanted.TheVariants as wants
use Rattle.pm_read_log.specs.declared.log_phase.LogPhase.{LogPhase}
use Rattle.pm_read_log.specs.declared.log_phase.LogPhase.TheVariants as logs
use Rattle.pm_read_table.specs.declared.phase.Phase as view_phase
use Rattle.pm_read_table.specs.declared.phase.Phase.TheVariants as readers
use Rattle.pm_read_table.specs.declared.view.View.{View}
use Rattle.pm_read_whole.specs.declared.phase.Phase.{Phase}
use Rattle.pm_read_whole.specs.declared.phase.Phase.TheVariants as phases

-- ---- its calls

-- its next call, or none at its end
abbrev pub next_call : Phase → Option Call
next_call (phases.View m) = reader.next_call m
next_call (phases.Log v m) = log.next_call m
next_call (phases.Ready v l) = None
next_call phases.Over = None

-- how many calls are left at most, where no refusal comes
abbrev pub calls_left : Phase → ℕ
calls_left (phases.View m) = reader.calls_left m + (most + 3)
calls_left (phases.Log v m) = log.calls_left m
calls_left (phases.Ready v l) = 0
calls_left phases.Over = 0

-- ---- what it reads

-- the snapshot with the id is asked for whole, and isn't the origin
abbrev pub IsAskedWhole : Asked → ℕ → Type 0
IsAskedWhole a id = (a.wanted ≡ wants.Whole id) × (1 ≤ id)

-- the view is of such a snapshot
pub record IsWholeView (v : View) : Type 0 where
  pub snapshot : Snapshot
  pub is_snapshot : v.snapshot ≡ Some snapshot
  pub is_id : v.id ≡ snapshot.id
  pub wanted : v.wanted ≡ wants.Whole v.id
  pub after_origin : 1 ≤ v.id

-- the reader of a view reads such a snapshot, and lists nothing
abbrev pub IsWholeOf : view_phase.Phase → Type 0
IsWholeOf (readers.Snapshot q id) = IsAskedWhole q.asked id
IsWholeOf (readers.Base q x) = IsAskedWhole q.asked x.id
IsWholeOf (readers.Delta q x base) = IsAskedWhole q.asked x.id
IsWholeOf (readers.Manifests r) = IsAskedWhole r.sought.asked r.snapshot.id
IsWholeOf (readers.Again a id path) = IsAskedWhole a id
IsWholeOf (readers.Ready v) = IsWholeView v
IsWholeOf readers.Over = Unit {0}
IsWholeOf other = ⊥

-- the reader of a changelog reads that of the view's snapshot
abbrev pub IsLogOf : View → LogPhase → Type 0
IsLogOf v (logs.List a x list) = (a ≡ log_asked_of v.schema v.id) × (v.snapshot ≡ Some x)
IsLogOf v (logs.Manifests r) = (r.asked ≡ log_asked_of v.schema v.id) × (v.snapshot ≡ Some r.snapshot)
IsLogOf v (logs.Again a path) = a ≡ log_asked_of v.schema v.id
IsLogOf v (logs.Ready l) = (v.schema ≡ l.schema) × (v.snapshot ≡ Some l.snapshot)
IsLogOf v logs.Over = Unit {0}
IsLogOf v other = ⊥

-- a reader of a whole view: its part has a call left; the view and the changelog are of one snapshot, and their files
-- have paths
abbrev pub IsWhole : Phase → Type 0
IsWhole (phases.View m) = (0 < reader.calls_left m) × IsWholeOf m
IsWhole (phases.Log v m) =
    (0 < log.calls_left m) × IsLogOf v m × IsWholeView v × HaveGroups v.schema v.live.items
IsWhole (phases.Ready v l) =
    (v.schema ≡ l.schema) × (v.snapshot ≡ Some l.snapshot) × IsWholeView v × HaveGroups v.schema v.live.items
    × HaveGroups l.schema l.changes.items
IsWhole phases.Over = Unit {0}

-- the view and the changelog are there to be taken
abbrev pub IsReady : Phase → Type 0
IsReady (phases.Ready v l) = Unit {0}
IsReady other = ⊥

-- the paths that the snapshot names, once they are
abbrev pub paths_of : Phase → List (List ℕ)
paths_of (phases.Ready v l) =
    named_paths l.schema l.snapshot (parts_of v.manifests.items v.live.items l.manifests.items l.changes.items)
paths_of other = []

-- ---- what answers lead to

-- the phase with the view and a reader of the changelog
abbrev pub AfterLog : View → LogPhase → Phase → Type 0
AfterLog v (logs.Ready l) later = later ≡ phases.Ready v l
AfterLog v m later = later ≡ phases.Log v m

-- this is the reader of the changelog of the view's snapshot, which was read for the view
abbrev pub IsOpened : View → LogPhase → Type 0
IsOpened v m = (x : Snapshot) × (v.snapshot ≡ Some x) × Opens (log_asked_of v.schema x.id) x x.changelog_list m

-- once the view is ready, the changelog is to be read
abbrev pub BeginsLog : View → Phase → Type 0
BeginsLog v later = (m : LogPhase) × IsOpened v m × AfterLog v m later

abbrev pub AfterView : view_phase.Phase → Phase → Type 0
AfterView m later = WithReader (λ m. phases.View m) BeginsLog m later

-- the phase after an answer that it goes on with
abbrev pub Goes : Phase → Answer → Phase → Type 0
Goes (phases.View m) answer later = (new : view_phase.Phase) × reader.Goes m answer new × AfterView new later
Goes (phases.Log v m) answer later = (new : LogPhase) × log.Goes m answer new × AfterLog v new later
Goes phase other later = ⊥

-- the refusal that an answer shows: one of the part that made the call, or memory runs out between the two parts
abbrev pub Shown : Phase → Answer → Refusal → Type 0
Shown (phases.View m) answer refusal = FailsToOpen IsWholeOf m answer refusal ⊎ reader.Shown m answer refusal
Shown (phases.Log v m) answer refusal = log.Shown m answer refusal
Shown phase other refusal = ⊥
