-- A reader of what an expiry needs to know: its phases, its calls, and what each answer leads to.
use Rattle.std.specs.Prelude.{◌≡◌, ◌⊎◌, ℕ, ◌+◌, ◌<◌, Option, None, Some}
use Rattle.pm_values.specs.declared.refusal.Refusal.{Refusal}
use Rattle.pm_values.specs.declared.refusal.Refusal.TheVariants as refusals
use Rattle.pm_store.specs.declared.answer.Answer.{Answer}
use Rattle.pm_store.specs.declared.answer.Answer.TheVariants as answers
use Rattle.pm_store.specs.declared.call.Call.{Call}
use Rattle.pm_store.specs.declared.call.Call.TheVariants as calls
use Rattle.pm_model_folder.specs.Paths.{floor_folder}
use Rattle.pm_read_schema.specs.Trace.{Names}
use Rattle.pm_snapshots.specs.Lister as snapshots
use Rattle.pm_snapshots.specs.Reading.{IsReading, ReadingView}
use Rattle.pm_snapshots.specs.declared.phase.Phase as listing
use Rattle.pm_snapshots.specs.declared.phase.Phase.TheVariants as listers
use Rattle.pm_consumers.specs.Lister as consumers
use Rattle.pm_consumers.specs.declared.phase.Phase as consuming
use Rattle.pm_consumers.specs.declared.phase.Phase.TheVariants as consumer_listers
use Rattle.pm_read_expiry.specs.Found.{listed_of, AreSnapshotIds, IsAsking, IsFoundIn, IsInOrder, IsNoneFound}
use Rattle.pm_read_expiry.specs.Times.{times_of, IsLeastNext}
use Rattle.pm_read_expiry.specs.declared.asking.Asking.{Asking}
use Rattle.pm_read_expiry.specs.declared.asking.Found.{Found}
use Rattle.pm_read_expiry.specs.declared.asking.Listed.{Listed}
use Rattle.pm_read_expiry.specs.declared.phase.Phase.{Phase}
use Rattle.pm_read_expiry.specs.declared.phase.Phase.TheVariants as phases

-- ---- its calls

-- the call that lists the floors
abbrev pub floors_call : Call
floors_call = calls.List floor_folder

-- its next call, or none at its end
abbrev pub next_call : Phase → Option Call
next_call (phases.Snapshots a m) = snapshots.next_call m
next_call (phases.Floors a m) = Some floors_call
next_call (phases.Consumers l c) = consumers.next_call c
next_call (phases.Times l next) = snapshots.next_call l.lister
next_call (phases.Ready x) = None
next_call phases.Over = None

-- how many calls are left at most, where no refusal comes
abbrev pub calls_left : Phase → ℕ
calls_left (phases.Snapshots a m) = snapshots.calls_left m + (consumers.calls_left consumer_listers.List + 1)
calls_left (phases.Floors a m) = snapshots.calls_left m + (consumers.calls_left consumer_listers.List + 1)
calls_left (phases.Consumers l c) = snapshots.calls_left l.lister + consumers.calls_left c
calls_left (phases.Times l next) = snapshots.calls_left l.lister
calls_left (phases.Ready x) = 0
calls_left phases.Over = 0

-- ---- what holds in each phase

-- the snapshots were listed, of the table that is asked for, and some of them were read
pub record IsReadingOf (a : Asking) (r : ReadingView) : Type 0 where
  pub reading : IsReading r
  pub schema : r.schema ≡ a.schema
  pub ids : AreSnapshotIds r.ids

abbrev pub IsListOf : Asking → listing.Phase → Type 0
IsListOf a (listers.Read r) = IsReadingOf a r
IsListOf a other = ⊥

-- and one of them is to be read
pub record HasNext (a : Asking) (m : listing.Phase) : Type 0 where
  pub of : IsListOf a m
  pub left : 0 < snapshots.calls_left m

-- a reader: the lister of snapshots has a call left, and so has that of consumers while it is asked
abbrev pub IsReader : Phase → Type 0
IsReader (phases.Snapshots a m) = IsAsking a × (m ≡ listers.List a.schema)
IsReader (phases.Floors a m) = IsAsking a × HasNext a m
IsReader (phases.Consumers l c) = IsAsking l.asking × HasNext l.asking l.lister × (0 < consumers.calls_left c)
IsReader (phases.Times l next) = IsAsking l.asking × HasNext l.asking l.lister
IsReader (phases.Ready x) = IsInOrder x
IsReader phases.Over = Unit {0}

-- all is known
abbrev pub IsReady : Phase → Type 0
IsReady (phases.Ready x) = Unit {0}
IsReady other = ⊥

-- ---- what answers lead to

-- once the snapshots were listed: where there is none but the origin nothing is left to be known
pub data AfterSnapshots (a : Asking) (m : listing.Phase) (later : Phase) : Type 0 where
  none_listed : (x : Found) → snapshots.IsDone m → IsNoneFound a x → later ≡ phases.Ready x → AfterSnapshots a m later
  some_listed : (snapshots.IsDone m → ⊥) → later ≡ phases.Floors a m → AfterSnapshots a m later

-- once a consumer's file was read, or all were
pub data AfterConsumers (l : Listed) (c : consuming.Phase) (later : Phase) : Type 0 where
  more_consumers : (consumers.IsDone c → ⊥) → later ≡ phases.Consumers l c → AfterConsumers l c later
  all_consumers : (next : Option ℕ) → consumers.IsDone c → IsLeastNext (consumers.consumers_in c) next
      → later ≡ phases.Times l next → AfterConsumers l c later

-- once a snapshot was read, or all were
pub data AfterTimes (a : Asking) (m : listing.Phase) (floors : Names) (next : Option ℕ) (later : Phase) : Type 0 where
  more_times : (snapshots.IsDone m → ⊥) → later ≡ phases.Times (listed_of a m floors) next
      → AfterTimes a m floors next later
  all_times : (x : Found) → snapshots.IsDone m
      → IsFoundIn a (times_of (snapshots.lines_of m)) next floors.items x → later ≡ phases.Ready x
      → AfterTimes a m floors next later

-- the phase after an answer that it goes on with
abbrev pub Goes : Phase → Answer → Phase → Type 0
Goes (phases.Snapshots a m) answer later =
    (new : listing.Phase) × snapshots.Goes m answer new × AfterSnapshots a new later
Goes (phases.Floors a m) (answers.Listed names) later =
    later ≡ phases.Consumers (listed_of a m names) consumer_listers.List
Goes (phases.Consumers l c) answer later =
    (new : consuming.Phase) × consumers.Goes c answer new × AfterConsumers l new later
Goes (phases.Times l next) answer later =
    (new : listing.Phase) × snapshots.Goes l.lister answer new × AfterTimes l.asking new l.floors next later
Goes phase other later = ⊥

-- memory ran out once all times were read
abbrev pub FailsToFind : listing.Phase → Answer → Refusal → Type 0
FailsToFind m answer refusal =
    (refusal ≡ refusals.Memory) × ((new : listing.Phase) × snapshots.Goes m answer new × snapshots.IsDone new)

-- the refusal that an answer shows: one of the lister that made the call, or that
abbrev pub Shown : Phase → Answer → Refusal → Type 0
Shown (phases.Snapshots a m) answer refusal = snapshots.Shown m answer refusal
Shown (phases.Consumers l c) answer refusal = consumers.Shown c answer refusal
Shown (phases.Times l next) answer refusal =
    FailsToFind l.lister answer refusal ⊎ snapshots.Shown l.lister answer refusal
Shown phase other refusal = ⊥
