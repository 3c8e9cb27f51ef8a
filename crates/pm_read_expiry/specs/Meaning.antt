-- What a reader of what an expiry needs to know knows of the table, whatever others do.
use Rattle.std.specs.Prelude.{◌≡◌, ◌⊎◌, ℕ, ◌-◌, ◌≤◌, Contains}
use Rattle.pm_values.specs.declared.refusal.Refusal.{Refusal}
use Rattle.pm_values.specs.declared.refusal.Refusal.TheVariants as refusals
use Rattle.pm_store.specs.Files.{Files}
use Rattle.pm_model_history.specs.History.{IsTableOf}
use Rattle.pm_model_folder.specs.Ledger.{IsKnown, Past}
use Rattle.pm_model_expiry.specs.Expiry.{HaveGoneBetween}
use Rattle.pm_read_schema.specs.Beside.{IsExpired}
use Rattle.pm_snapshots.specs.Meaning.{IsReadingIn}
use Rattle.pm_snapshots.specs.Reading.{IsReading, ReadingView}
use Rattle.pm_snapshots.specs.declared.phase.Phase as listing
use Rattle.pm_snapshots.specs.declared.phase.Phase.TheVariants as listers
use Rattle.pm_read_expiry.specs.Found.{AreSnapshotIds}
use Rattle.pm_read_expiry.specs.declared.asking.Asking.{Asking}
use Rattle.pm_read_expiry.specs.declared.asking.Found.{Found}
use Rattle.pm_read_expiry.specs.declared.phase.Phase.{Phase}
use Rattle.pm_read_expiry.specs.declared.phase.Phase.TheVariants as phases

-- Snapshots were listed and read, of the table that is asked for. Each id that was listed comes after another one, or
-- no snapshot below it is there but the origin.
pub record KnowsReading (a : Asking) (f : Files) (p : Past) (r : ReadingView) : Type 0 where
  pub schema : r.schema ≡ a.schema
  pub reading : IsReading r
  pub known : IsReadingIn p r
  pub ids : AreSnapshotIds r.ids
  pub each : (id : ℕ) → Contains r.ids id → Contains r.ids (id - 1) ⊎ HaveGoneBetween f p a.schema id

-- what is known with the lister of snapshots: the table is there; and once they were listed that
abbrev pub KnowsLister : Asking → listing.Phase → Files → Past → Type 0
KnowsLister a (listers.List s) f p = (s ≡ a.schema) × IsTableOf a.schema p.history
KnowsLister a (listers.Read r) f p = KnowsReading a f p r
KnowsLister a other f p = ⊥

-- what was found: the table is there, the first and the last are two of its snapshots, whether or not these have gone
-- since, and none below the first is there but the origin
pub record KnowsFound (x : Found) (f : Files) (p : Past) : Type 0 where
  pub table : IsTableOf x.schema p.history
  pub last : 1 ≤ x.last → IsKnown p x.last
  pub kept : 1 ≤ x.last → IsKnown p x.first
  pub gone : 1 ≤ x.first → HaveGoneBetween f p x.schema x.first

-- What it knows in each phase, whatever others do. Of consumers nothing that lasts is known.
abbrev pub Knows : Phase → Files → Past → Type 0
Knows (phases.Snapshots a m) f p = KnowsLister a m f p
Knows (phases.Floors a m) f p = KnowsLister a m f p
Knows (phases.Consumers l c) f p = KnowsLister l.asking l.lister f p
Knows (phases.Times l next) f p = KnowsLister l.asking l.lister f p
Knows (phases.Ready x) f p = KnowsFound x f p
Knows phases.Over f p = Unit {0}

-- The refusals that answers show where the files stand, whatever others do: a snapshot that was listed has gone, or
-- memory ran out. The table is there, and no file is damaged.
abbrev pub MayRefuse : Files → Past → Refusal → Type 0
MayRefuse f p refusals.Memory = Unit {0}
MayRefuse f p (refusals.Expired id) = IsExpired f p id
MayRefuse f p other = ⊥

-- what is told of a step that is refused: where the store failed nothing, and else that
abbrev pub IsTold : Refusal → Files → Past → Type 0
IsTold (refusals.StoreFault path) f p = Unit {0}
IsTold other f p = MayRefuse f p other
