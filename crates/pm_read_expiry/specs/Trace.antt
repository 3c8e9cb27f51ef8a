-- The own calls of a reader of what an expiry needs to know, and what they show.
use Rattle.std.specs.Prelude.{◌≡◌, ◌⊎◌, ℕ, List, [], ◌∷◌, ◌++◌, Option, None}
use Rattle.pm_values.specs.declared.refusal.Refusal.{Refusal}
use Rattle.pm_values.specs.declared.refusal.Refusal.TheVariants as refusals
use Rattle.pm_store.specs.declared.answer.Answer.TheVariants as answers
use Rattle.pm_machine.specs.Trace.{Event, answered, faulted}
use Rattle.pm_model_folder.specs.Paths.{floor_folder}
use Rattle.pm_read_schema.specs.Trace.{Names}
use Rattle.pm_snapshots.specs.Reading.{ReadingView, next_id, reading_of}
use Rattle.pm_snapshots.specs.Trace as snapshots
use Rattle.pm_snapshots.specs.declared.phase.Phase.TheVariants as listers
use Rattle.pm_consumer_files.specs.declared.lines.NamedConsumer.{NamedConsumer}
use Rattle.pm_consumers.specs.Trace as consumers
use Rattle.pm_read_expiry.specs.Found.{IsFoundIn, IsNoneFound}
use Rattle.pm_read_expiry.specs.Reader.{floors_call}
use Rattle.pm_read_expiry.specs.Times.{times_of, IsLeastNext}
use Rattle.pm_read_expiry.specs.declared.asking.Asking.{Asking}
use Rattle.pm_read_expiry.specs.declared.asking.Found.{Found}
use Rattle.pm_read_expiry.specs.declared.phase.Phase.{Phase}
use Rattle.pm_read_expiry.specs.declared.phase.Phase.TheVariants as phases

-- these floors were listed
abbrev pub listed_floors : Names → Event
listed_floors names = answered floors_call (answers.Listed names)

-- ---- how far the calls have come, where this was asked

-- the snapshots were listed, and these are their ids
abbrev pub HasIds : Asking → List ℕ → List Event → Type 0
HasIds a ids own = snapshots.HasRead (reading_of a.schema ids []) own

-- And then these floors were listed. The calls after that are those of the lister of consumers, of which this holds.
pub record HasFloors (a : Asking) (ids : List ℕ) (floors : List (List ℕ)) (P : List Event → Type 0) (own : List Event)
    : Type 0 where
  pub first : List Event
  pub names : Names
  pub rest : List Event
  pub listed : HasIds a ids first
  pub are : names.items ≡ floors
  pub then_consumers : P rest
  pub is : own ≡ first ++ listed_floors names ∷ rest

-- the consumers were listed and read, and this is the least number that they read next
abbrev pub HasConsumers : Option ℕ → List Event → Type 0
HasConsumers next own =
    (cs : List NamedConsumer) × consumers.HasListed cs own × IsLeastNext cs next

-- And then snapshots were read. Together with the calls that listed them this holds of these calls.
pub record HasTimes (a : Asking) (ids : List ℕ) (floors : List (List ℕ)) (next : Option ℕ) (P : List Event → Type 0)
    (own : List Event) : Type 0 where
  pub before : List Event
  pub reads : List Event
  pub listed : HasFloors a ids floors (HasConsumers next) before
  pub then_reads : P (listed.first ++ reads)
  pub is : own ≡ before ++ reads

-- these snapshots were read
pub record HasLines (a : Asking) (floors : List (List ℕ)) (next : Option ℕ) (r : ReadingView) (own : List Event)
    : Type 0 where
  pub schema : r.schema ≡ a.schema
  pub read : HasTimes a r.ids floors next (snapshots.HasRead r) own

-- what was found is so: no snapshot was listed but the origin; or all that were listed were read
pub data HasFound (a : Asking) (x : Found) (own : List Event) : Type 0 where
  none_listed : IsNoneFound a x → HasIds a [] own → HasFound a x own
  all_read : (floors : List (List ℕ)) (next : Option ℕ) (r : ReadingView) → HasLines a floors next r own
      → next_id r ≡ None → IsFoundIn a (times_of r.lines) next floors x → HasFound a x own

-- ---- what they show

-- what the call that lists the floors shows: it failed, or memory ran out before it
abbrev pub ShowsOfFloors : Asking → Refusal → List Event → Type 0
ShowsOfFloors a refusals.Memory own = (ids : List ℕ) × HasIds a ids own
ShowsOfFloors a (refusals.StoreFault path) own =
    (ids : List ℕ) × (earlier : List Event) × HasIds a ids earlier × (path ≡ floor_folder)
    × (own ≡ earlier ++ faulted floors_call ∷ [])
ShowsOfFloors a other own = ⊥

-- what the calls of the lister of consumers show
abbrev pub ShowsOfConsumers : Asking → Refusal → List Event → Type 0
ShowsOfConsumers a refusal own =
    (ids : List ℕ) × (floors : List (List ℕ)) × HasFloors a ids floors (consumers.Shows refusal) own

-- what those show that read snapshots
abbrev pub ShowsOfTimes : Asking → Refusal → List Event → Type 0
ShowsOfTimes a refusal own =
    (ids : List ℕ) × (floors : List (List ℕ)) × (next : Option ℕ)
    × HasTimes a ids floors next (snapshots.Shows refusal) own

-- which calls show a refusal: those that list the snapshots, or one of these
abbrev pub Shows : Asking → Refusal → List Event → Type 0
Shows a refusal own =
    snapshots.Shows refusal own
    ⊎ (ShowsOfFloors a refusal own ⊎ (ShowsOfConsumers a refusal own ⊎ ShowsOfTimes a refusal own))

-- its calls so far, by its phase, where this was asked: at its end they show a refusal
abbrev pub Did : Asking → Phase → List Event → Type 0
Did a (phases.Snapshots b m) own = (b ≡ a) × (m ≡ listers.List a.schema) × snapshots.Has a.schema own
Did a (phases.Floors b m) own =
    (b ≡ a) × ((ids : List ℕ) × (m ≡ listers.Read (reading_of a.schema ids [])) × HasIds a ids own)
Did a (phases.Consumers l c) own =
    (l.asking ≡ a) × ((ids : List ℕ) × (l.lister ≡ listers.Read (reading_of a.schema ids []))
    × HasFloors a ids l.floors.items (consumers.Did c) own)
Did a (phases.Times l next) own =
    (l.asking ≡ a) × ((r : ReadingView) × (l.lister ≡ listers.Read r) × HasLines a l.floors.items next r own)
Did a (phases.Ready x) own = HasFound a x own
Did a phases.Over own = (refusal : Refusal) × Shows a refusal own
