-- What an expirer knows of the table, whatever others do, and what its steps mean for the files.
use Rattle.std.specs.Prelude.{◌≡◌, ◌≢◌, ◌↔◌, ℕ, ◌+◌, ◌<◌, ◌≤◌, List, ◌∷◌, Contains}
use Rattle.std.specs.FinMap as map
use Rattle.pm_values.specs.declared.refusal.Refusal.{Refusal}
use Rattle.pm_values.specs.declared.refusal.Refusal.TheVariants as refusals
use Rattle.pm_store.specs.Files.{Files}
use Rattle.pm_store.specs.Store.{StoreView}
use Rattle.pm_machine.specs.Moves.{IsKept, Moves}
use Rattle.pm_model_folder.specs.Changes.{Actor, HavePlainNames}
use Rattle.pm_model_folder.specs.Commits.{Names}
use Rattle.pm_model_folder.specs.Ledger.{Advances, IsKnown, Past, Stands}
use Rattle.pm_model_expiry.specs.Expiry.{HaveGoneBetween}
use Rattle.pm_model_expiry.specs.Removals.{Expiry, KnowsRemovals}
use Rattle.pm_model_history.specs.History.{IsTableOf}
use Rattle.pm_schema.specs.declared.schema.TableSchema.{TableSchema}
use Rattle.pm_remove.specs.declared.phase.Phase as remove_phase
use Rattle.pm_remove.specs.declared.phase.Phase.TheVariants as removers
use Rattle.pm_expire_paths.specs.Dropping.{IsSeen}
use Rattle.pm_read_whole.specs.Meaning as whole
use Rattle.pm_read_whole.specs.declared.phase.Phase as whole_phase
use Rattle.pm_read_expiry.specs.Meaning as reading
use Rattle.pm_read_expiry.specs.declared.phase.Phase as read_phase
use Rattle.pm_read_expiry.specs.declared.phase.Phase.TheVariants as readers
use Rattle.pm_announce.specs.Meaning as announcing
use Rattle.pm_announce.specs.Meaning.{KnowsEnd}
use Rattle.pm_expire.specs.declared.phase.Phase.{Phase}
use Rattle.pm_expire.specs.declared.phase.Phase.TheVariants as phases
use Rattle.pm_expire.specs.declared.phase.Views.{Views}

-- ---- what it may change

-- the remover's path may go, by a kind of change of its actor, and what is known stays
pub record Removes (me : Actor) (next : List ℕ) (f : Files) (p : Past) (after : Files) (later : Past) : Type 0 where
  pub advances : Advances me f p after later
  pub same : later ≡ p
  pub files : (path : List ℕ) → path ≢ next → map.get after path ≡ map.get f path

-- What it may change in a phase: its floor may appear; the next path may go; and else nothing is changed.
abbrev pub Makes : Actor → Phase → Files → Past → Files → Past → Type 0
Makes me (phases.Announce m) f p after later = announcing.Makes me m f p after later
Makes me (phases.Remove first last (removers.Remove r)) f p after later = Removes me r.next f p after later
Makes me other f p after later = IsKept f p after later

-- ---- what it knows

-- the schema of the table that is asked for has plain names
abbrev pub IsPlainRead : read_phase.Phase → Type 0
IsPlainRead (readers.Snapshots a m) = HavePlainNames a.schema
IsPlainRead (readers.Floors a m) = HavePlainNames a.schema
IsPlainRead (readers.Consumers l c) = HavePlainNames l.asking.schema
IsPlainRead (readers.Times l next) = HavePlainNames l.asking.schema
IsPlainRead (readers.Ready x) = HavePlainNames x.schema
IsPlainRead readers.Over = Unit {0}

-- Of the views that were read so far, from the first on up to below an id: each was of a snapshot of the table, and the
-- paths that were seen are those that they named when they were committed, and those kept the last one's.
pub record KnowsViews (v : Views) (p : Past) : Type 0 where
  pub known : (id : ℕ) → v.announced.found.first ≤ id → id < v.id → IsKnown p id
  pub seen : (path : List ℕ) → IsSeen v.dropping path
      ↔ ((id : ℕ) × (v.announced.found.first ≤ id) × (id < v.id) × Names (p.stood id) v.announced.found.schema id path)
  pub kept : (id : ℕ) (path : List ℕ) → v.announced.found.first ≤ id → id + 1 ≡ v.id
      → Contains v.dropping.kept path ↔ Names (p.stood id) v.announced.found.schema id path

-- While it reads views, some snapshot is to go, and the announcement stands with what the consumers said since.
pub record KnowsView (v : Views) (m : whole_phase.Phase) (f : Files) (p : Past) : Type 0 where
  pub some : v.announced.found.first < v.announced.end
  pub from : v.announced.found.first ≤ v.id
  pub to : v.id ≤ v.announced.end
  pub order : v.announced.end ≤ v.announced.found.last
  pub end : KnowsEnd v.announced.found v.announced.end f p
  pub views : KnowsViews v p
  pub reader : whole.Knows m f p

-- What is known once it is done, by the two numbers that it answers: no snapshot of the table is there below the first
-- but the origin, and both were committed, whether or not they have gone since. Both are 0 where there was none.
pub record KnowsDone (first last : ℕ) (f : Files) (p : Past) : Type 0 where
  pub schema : TableSchema
  pub table : IsTableOf schema p.history
  pub gone : HaveGoneBetween f p schema first
  pub kept : 1 ≤ last → IsKnown p first
  pub newest : 1 ≤ last → IsKnown p last
  pub order : first ≤ last

-- of what is to be removed each remove may be made, and the first that is kept is the end of that expiry
abbrev pub KnowsRemover : ℕ → ℕ → remove_phase.Phase → Files → Past → Type 0
KnowsRemover first last (removers.Remove r) f p =
    (x : Expiry) × (x.end ≡ first) × (first ≤ last) × IsKnown p first × IsKnown p last
    × KnowsRemovals x (r.next ∷ r.rest) f p
KnowsRemover first last removers.Removed f p = KnowsDone first last f p
KnowsRemover first last removers.Over f p = Unit {0}

-- what it knows in each phase, whatever others do: what its parts know
abbrev pub Knows : Phase → Files → Past → Type 0
Knows (phases.Read m) f p = IsPlainRead m × reading.Knows m f p
Knows (phases.Announce m) f p = announcing.Knows m f p
Knows (phases.View v m) f p = KnowsView v m f p
Knows (phases.Remove first last m) f p = KnowsRemover first last m f p
Knows (phases.Done first last) f p = KnowsDone first last f p
Knows phases.Over f p = Unit {0}

-- The refusals that answers show where the files stand, whatever others do: a snapshot that it reads has gone; a tag is
-- there; or memory ran out.
abbrev pub MayRefuse : Files → Past → Refusal → Type 0
MayRefuse f p (refusals.Unsupported what text) = announcing.MayRefuse f (refusals.Unsupported what text)
MayRefuse f p other = reading.MayRefuse f p other

-- what is told of a step that is refused: where the store failed nothing, and else that
abbrev pub IsTold : Refusal → Files → Past → Type 0
IsTold (refusals.StoreFault path) f p = Unit {0}
IsTold other f p = MayRefuse f p other

-- Whoever expires: a step makes one of these changes, or none, and what the expirer knows holds after it.
abbrev pub ExpirerMoved : Phase → Phase → StoreView → StoreView → Type 0
ExpirerMoved old new before after = (me : Actor) → Moves Stands (Makes me old) (Knows old) (Knows new) before after

-- And a step that is refused tells what is so after it.
abbrev pub ExpirerTold : Phase → Refusal → StoreView → StoreView → Type 0
ExpirerTold old refusal before after =
    (me : Actor) → Moves Stands (Makes me old) (Knows old) (IsTold refusal) before after

-- ---- the actor beside the past

-- Who expires stands beside the pasts, since phases don't hold it.
abbrev pub Beside : Type 0
Beside = Actor × Past

abbrev pub StandsBeside : Files → Beside → Type 0
StandsBeside f b = Stands f b.1

abbrev pub MakesBeside : Phase → Files → Beside → Files → Beside → Type 0
MakesBeside phase f b after later = (later.0 ≡ b.0) × Makes b.0 phase f b.1 after later.1

abbrev pub KnowsBeside : Phase → Files → Beside → Type 0
KnowsBeside phase f b = Knows phase f b.1

abbrev pub TellsBeside : Refusal → Files → Beside → Type 0
TellsBeside refusal f b = IsTold refusal f b.1
