-- An expirer: its phases, its calls, and what each answer leads to.
use Rattle.std.specs.Prelude.{◌≡◌, ◌≢◌, ◌⊎◌, ℕ, ◌+◌, ◌-◌, ◌*◌, ◌<◌, ◌≤◌, List, [], Contains, length, Option, None}
use Rattle.pm_values.specs.declared.refusal.Refusal.{Refusal}
use Rattle.pm_values.specs.declared.refusal.Refusal.TheVariants as refusals
use Rattle.pm_store.specs.declared.answer.Answer.{Answer}
use Rattle.pm_store.specs.declared.call.Call.{Call}
use Rattle.pm_schema.specs.declared.schema.TableSchema.{TableSchema}
use Rattle.pm_remove.specs.Remover as removing
use Rattle.pm_remove.specs.declared.phase.Phase as remove_phase
use Rattle.pm_remove.specs.declared.phase.Phase.TheVariants as removers
use Rattle.pm_model_expiry.specs.Removals.{Expiry, removals}
use Rattle.pm_expire_paths.specs.Dropping.{Adds, AreDropped, DroppingView}
use Rattle.pm_expire_paths.specs.Floors.{AreFloorsBelow}
use Rattle.pm_consumers.specs.Lister as consumers
use Rattle.pm_consumers.specs.declared.phase.Phase.TheVariants as consumer_listers
use Rattle.pm_read_table.specs.Asked.{asked_of, sought_of}
use Rattle.pm_read_table.specs.Reader.{most}
use Rattle.pm_read_table.specs.declared.asked.Wanted.TheVariants as wants
use Rattle.pm_read_table.specs.declared.phase.Phase as view_phase
use Rattle.pm_read_table.specs.declared.phase.Phase.TheVariants as view_readers
use Rattle.pm_read_whole.specs.Whole as whole
use Rattle.pm_read_whole.specs.declared.phase.Phase as whole_phase
use Rattle.pm_read_whole.specs.declared.phase.Phase.TheVariants as wholes
use Rattle.pm_read_expiry.specs.Reader as reading
use Rattle.pm_read_expiry.specs.declared.asking.Found.{Found}
use Rattle.pm_read_expiry.specs.declared.phase.Phase as read_phase
use Rattle.pm_read_expiry.specs.declared.phase.Phase.TheVariants as readers
use Rattle.pm_announce.specs.Announcer as announcing
use Rattle.pm_announce.specs.Announcer.{IsAnnounced, IsToAnnounce}
use Rattle.pm_announce.specs.declared.phase.Announced.{Announced}
use Rattle.pm_announce.specs.declared.phase.Phase as announce_phase
use Rattle.pm_announce.specs.declared.phase.Phase.TheVariants as announcers
use Rattle.pm_expire.specs.declared.expirer.ExpireStep.{ExpireStep}
use Rattle.pm_expire.specs.declared.expirer.ExpireStep.TheVariants as steps
use Rattle.pm_expire.specs.declared.phase.Phase.{Phase}
use Rattle.pm_expire.specs.declared.phase.Phase.TheVariants as phases
use Rattle.pm_expire.specs.declared.phase.Views.{Views}

-- ---- its calls

-- its next call, or none at its end
abbrev pub next_call : Phase → Option Call
next_call (phases.Read m) = reading.next_call m
next_call (phases.Announce m) = announcing.next_call m
next_call (phases.View v m) = whole.next_call m
next_call (phases.Remove first last m) = removing.next_call m
next_call (phases.Done first last) = None
next_call phases.Over = None

-- how many calls the announcer and the reader of a whole view make at most, and how many paths are removed
abbrev pub announce_calls : ℕ
announce_calls = consumers.calls_left consumer_listers.List + 2

abbrev pub view_calls : ℕ
view_calls = (most + 4) + (most + 3)

abbrev pub most_paths : ℕ
most_paths = 18446744073709551616

-- how many are left at most once the view of a snapshot was read: those of the views up to the end, and the removes
abbrev pub calls_to : ℕ → ℕ → ℕ
calls_to id end = (end - id) * view_calls + (most_paths + 1)

-- and once the announcer is ready
abbrev pub views_left : announce_phase.Phase → ℕ
views_left (announcers.Announce x) = view_calls + calls_to x.first x.end
views_left (announcers.Consumers x c) = view_calls + calls_to x.first x.end
views_left (announcers.Tags a) = view_calls + calls_to a.found.first a.found.end
views_left other = 0

-- how many calls are left at most, where no refusal comes
abbrev pub calls_left : Phase → ℕ
calls_left (phases.Read m) = reading.calls_left m + (announce_calls + (view_calls + calls_to 0 most_paths))
calls_left (phases.Announce m) = announcing.calls_left m + views_left m
calls_left (phases.View v m) = whole.calls_left m + calls_to v.id v.announced.end
calls_left (phases.Remove first last m) = removing.calls_left m
calls_left (phases.Done first last) = 0
calls_left phases.Over = 0

-- the reader of the whole view of a snapshot, before its first call
abbrev pub view_at : TableSchema → ℕ → whole_phase.Phase
view_at s id = wholes.View (view_readers.Snapshot (sought_of (asked_of s (wants.Whole id)) []) id)

-- the expiry of what was announced
abbrev pub expiry_of : Announced → Expiry
expiry_of a = record { schema = a.found.schema; first = a.found.first; end = a.end; own = a.found.end }

-- ---- what holds in each phase

-- the reader of a view reads that of this snapshot of the table
abbrev pub IsAskedFor : TableSchema → ℕ → view_phase.Phase → Type 0
IsAskedFor s id (view_readers.Snapshot q other) = (q.asked.schema ≡ s) × (other ≡ id)
IsAskedFor s id (view_readers.Base q x) = (q.asked.schema ≡ s) × (x.id ≡ id)
IsAskedFor s id (view_readers.Delta q x base) = (q.asked.schema ≡ s) × (x.id ≡ id)
IsAskedFor s id (view_readers.Manifests r) = (r.sought.asked.schema ≡ s) × (r.snapshot.id ≡ id)
IsAskedFor s id (view_readers.Ready v) = (v.schema ≡ s) × (v.id ≡ id)
IsAskedFor s id (view_readers.List a) = ⊥
IsAskedFor s id (view_readers.Origin q) = ⊥
IsAskedFor s id other = Unit {0}

-- so of a whole view
abbrev pub IsViewOf : TableSchema → ℕ → whole_phase.Phase → Type 0
IsViewOf s id (wholes.View m) = IsAskedFor s id m
IsViewOf s id (wholes.Log v m) = (v.schema ≡ s) × (v.id ≡ id)
IsViewOf s id (wholes.Ready v l) = (v.schema ≡ s) × (v.id ≡ id)
IsViewOf s id wholes.Over = Unit {0}

-- views are read of the snapshots from the first on, up to the end, which comes after the first
pub record AreViews (v : Views) : Type 0 where
  pub announced : IsAnnounced v.announced
  pub some : v.announced.found.first < v.announced.end
  pub from : v.announced.found.first ≤ v.id
  pub to : v.id ≤ v.announced.end

-- and this reads that of the one that is named
pub record IsRead (v : Views) (m : whole_phase.Phase) : Type 0 where
  pub whole : whole.IsWhole m
  pub of : IsViewOf v.announced.found.schema v.id m

-- an expirer: its part has a call left
abbrev pub IsExpirer : Phase → Type 0
IsExpirer (phases.Read m) = reading.IsReader m × (0 < reading.calls_left m)
IsExpirer (phases.Announce m) = announcing.IsAnnouncer m × (0 < announcing.calls_left m)
IsExpirer (phases.View v m) = AreViews v × IsRead v m × (0 < whole.calls_left m)
IsExpirer (phases.Remove first last m) = 0 < removing.calls_left m
IsExpirer other = Unit {0}

-- ---- what answers lead to

-- once what an expiry needs is known: where no snapshot is to go it is done, and else it announces its end
pub data AfterRead (m : read_phase.Phase) (later : Phase) : Type 0 where
  reads_on : (reading.IsReady m → ⊥) → later ≡ phases.Read m → AfterRead m later
  none_goes : (x : Found) → m ≡ readers.Ready x → x.end ≡ x.first → x.end ≤ x.last
      → later ≡ phases.Done x.end x.last → AfterRead m later
  some_goes : (x : Found) → m ≡ readers.Ready x → IsToAnnounce x → x.end ≤ most_paths
      → later ≡ phases.Announce (announcers.Announce x) → AfterRead m later

-- these views were added so far, and that of this snapshot is to be read
abbrev pub views_of : Announced → DroppingView → ℕ → Views
views_of a d id = record { announced = a; dropping = d; id = id }

abbrev pub view_next : Announced → DroppingView → ℕ → Phase
view_next a d id = phases.View (views_of a d id) (view_at a.found.schema id)

-- no path was added yet
pub record AreNone (d : DroppingView) : Type 0 where
  pub kept : (path : List ℕ) → Contains d.kept path → ⊥
  pub gone : (path : List ℕ) → Contains d.gone path → ⊥

-- once the end that was announced is known: where no snapshot is to go any more it is done, and else it reads the view
-- of the first
pub data AfterAnnounce (m : announce_phase.Phase) (later : Phase) : Type 0 where
  announces_on : (announcing.IsReady m → ⊥) → later ≡ phases.Announce m → AfterAnnounce m later
  none_goes_then : (a : Announced) → m ≡ announcers.Announced a → a.end ≡ a.found.first
      → later ≡ phases.Done a.end a.found.last → AfterAnnounce m later
  views_first : (a : Announced) (d : DroppingView) → m ≡ announcers.Announced a → IsAnnounced a
      → a.found.first < a.end → AreNone d → later ≡ view_next a d a.found.first → AfterAnnounce m later

-- what is to be removed once all views were added: the origin and the snapshots below the end, the files that these
-- named and the one at the end doesn't, and the floors below its own that were listed
pub record AreRemovals (a : Announced) (d : DroppingView) (paths : List (List ℕ)) : Type 0 where
  pub dropped : List (List ℕ)
  pub floors : List ℕ
  pub are_dropped : AreDropped d dropped
  pub are_floors : AreFloorsBelow a.found.floors.items a.found.end floors
  pub within : length paths ≤ most_paths
  pub is : paths ≡ removals (expiry_of a) dropped floors

-- once a view was added: that of the next snapshot is to be read, or all that is to be removed is known
pub data AfterAdding (a : Announced) (d : DroppingView) (id : ℕ) (later : Phase) : Type 0 where
  views_next : id < a.end → later ≡ view_next a d (id + 1) → AfterAdding a d id later
  views_all : (paths : List (List ℕ)) → id ≡ a.end → AreRemovals a d paths
      → later ≡ phases.Remove a.end a.found.last (removing.remove_next paths) → AfterAdding a d id later

-- once the reader of a view made a call
pub data AfterView (v : Views) (m : whole_phase.Phase) (later : Phase) : Type 0 where
  views_on : (whole.IsReady m → ⊥) → later ≡ phases.View v m → AfterView v m later
  view_read : (d : DroppingView) → whole.IsReady m → IsRead v m → Adds v.dropping (whole.paths_of m) d
      → AfterAdding v.announced d v.id later → AfterView v m later

-- once a path was removed: the next one is to be, or all were
pub data AfterRemove (first last : ℕ) (m : remove_phase.Phase) (later : Phase) : Type 0 where
  removes_on : m ≢ removers.Removed → later ≡ phases.Remove first last m → AfterRemove first last m later
  removed_all : m ≡ removers.Removed → later ≡ phases.Done first last → AfterRemove first last m later

-- the phase after an answer that it goes on with
abbrev pub Goes : Phase → Answer → Phase → Type 0
Goes (phases.Read m) answer later = (new : read_phase.Phase) × reading.Goes m answer new × AfterRead new later
Goes (phases.Announce m) answer later =
    (new : announce_phase.Phase) × announcing.Goes m answer new × AfterAnnounce new later
Goes (phases.View v m) answer later = (new : whole_phase.Phase) × whole.Goes m answer new × AfterView v new later
Goes (phases.Remove first last m) answer later =
    (new : remove_phase.Phase) × removing.Goes m answer new × AfterRemove first last new later
Goes phase other later = ⊥

-- memory ran out once the part was ready that made the call
abbrev pub FailsToView : announce_phase.Phase → Answer → Refusal → Type 0
FailsToView m answer refusal =
    (refusal ≡ refusals.Memory)
    × ((new : announce_phase.Phase) × announcing.Goes m answer new × announcing.IsReady new)

abbrev pub FailsToAdd : whole_phase.Phase → Answer → Refusal → Type 0
FailsToAdd m answer refusal =
    (refusal ≡ refusals.Memory) × ((new : whole_phase.Phase) × whole.Goes m answer new × whole.IsReady new)

-- the refusal that an answer shows: one of the part that made the call, or that
abbrev pub Shown : Phase → Answer → Refusal → Type 0
Shown (phases.Read m) answer refusal = reading.Shown m answer refusal
Shown (phases.Announce m) answer refusal = FailsToView m answer refusal ⊎ announcing.Shown m answer refusal
Shown (phases.View v m) answer refusal = FailsToAdd m answer refusal ⊎ whole.Shown m answer refusal
Shown phase other refusal = ⊥

-- what a step that goes on has reached
abbrev pub Reaches : ExpireStep → Phase → Type 0
Reaches steps.More new = 0 < calls_left new
Reaches (steps.Done first last) new = new ≡ phases.Done first last

-- Private: the answer of a step that went on, by the phase that it reached
abbrev pub reached_at : Phase → ExpireStep
reached_at (phases.Done first last) = steps.Done first last
reached_at other = steps.More
