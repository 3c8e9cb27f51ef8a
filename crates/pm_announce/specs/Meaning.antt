-- What an announcer knows of the table, whatever others do, and what its steps mean for the files.
use Rattle.std.specs.Prelude.{◌≡◌, ◌≢◌, ℕ, List, [], ◌∷◌, codes, drop, min, Some}
use Rattle.std.specs.FinMap as map
use Rattle.pm_values.specs.declared.refusal.Refusal.{Refusal}
use Rattle.pm_values.specs.declared.refusal.Refusal.TheVariants as refusals
use Rattle.pm_store.specs.Files.{Files}
use Rattle.pm_store.specs.Store.{StoreView}
use Rattle.pm_machine.specs.Moves.{IsKept, Moves}
use Rattle.pm_model_folder.specs.Changes.{Actor, HavePlainNames}
use Rattle.pm_model_folder.specs.Ledger.{Advances, Past, Stands}
use Rattle.pm_model_folder.specs.Paths.{floor_path}
use Rattle.pm_model_expiry.specs.Expiry.{HasAnnounced, HasLeft}
use Rattle.pm_consumer_files.specs.declared.lines.NamedConsumer.{NamedConsumer}
use Rattle.pm_consumers.specs.declared.phase.Phase as consuming
use Rattle.pm_consumers.specs.declared.phase.Phase.TheVariants as consumer_listers
use Rattle.pm_read_expiry.specs.Meaning.{KnowsFound}
use Rattle.pm_read_expiry.specs.declared.asking.Found.{Found}
use Rattle.pm_announce.specs.Announcer.{IsToAnnounce}
use Rattle.pm_announce.specs.Tags.{IsFirstTag}
use Rattle.pm_announce.specs.declared.phase.Phase.{Phase}
use Rattle.pm_announce.specs.declared.phase.Phase.TheVariants as phases

-- What an announcer may change: its actor's kinds of change, and of these only that its floor appears. What is known
-- stays.
pub record Announces (me : Actor) (x : Found) (f : Files) (p : Past) (after : Files) (later : Past) : Type 0 where
  pub advances : Advances me f p after later
  pub same : later ≡ p
  pub files : (path : List ℕ) → path ≢ floor_path x.end → map.get after path ≡ map.get f path

-- what it may change in a phase: nothing after the announcement
abbrev pub Makes : Actor → Phase → Files → Past → Files → Past → Type 0
Makes me (phases.Announce x) f p after later = Announces me x f p after later
Makes me other f p after later = IsKept f p after later

-- an end, lowered to the least number of consumers
abbrev pub lowered_by : ℕ → List NamedConsumer → ℕ
lowered_by end [] = end
lowered_by end (c ∷ consumers) = lowered_by (min end c.consumer.next) consumers

-- what was found stays, some snapshot goes, and the table's names lead to no floor
pub record KnowsOf (x : Found) (f : Files) (p : Past) : Type 0 where
  pub to_announce : IsToAnnounce x
  pub plain : HavePlainNames x.schema
  pub found : KnowsFound x f p

-- What is known while the consumers are read: of each that counts the end, lowered to the numbers that were read, is at
-- most its number, but for those whose files are left.
abbrev pub KnowsReading : Found → consuming.Phase → Files → Past → Type 0
KnowsReading x (consumer_listers.Read r) f p = HasLeft f p (lowered_by x.end r.consumers) (drop r.read r.names)
KnowsReading x other f p = Unit {0}

-- and once the floor is there
pub record KnowsFloor (x : Found) (c : consuming.Phase) (f : Files) (p : Past) : Type 0 where
  pub of : KnowsOf x f p
  pub announced : HasAnnounced f p x.end
  pub reading : KnowsReading x c f p

-- and once the consumers were read again: where the end is above the first snapshot, no consumer that counts needs one
-- below the end
pub record KnowsEnd (x : Found) (end : ℕ) (f : Files) (p : Past) : Type 0 where
  pub of : KnowsOf x f p
  pub announced : HasAnnounced f p x.end
  pub left : end ≢ x.first → HasLeft f p end []

-- what it knows in each phase, whatever others do
abbrev pub Knows : Phase → Files → Past → Type 0
Knows (phases.Announce x) f p = KnowsOf x f p
Knows (phases.Consumers x c) f p = KnowsFloor x c f p
Knows (phases.Tags a) f p = KnowsEnd a.found a.end f p
Knows (phases.Announced a) f p = KnowsEnd a.found a.end f p
Knows phases.Over f p = Unit {0}

-- The refusals that answers show where the files stand, whatever others do: a tag is there, which constrains nothing of
-- what they stand for; or memory ran out.
abbrev pub MayRefuse : Files → Refusal → Type 0
MayRefuse f refusals.Memory = Unit {0}
MayRefuse f (refusals.Unsupported what text) = (what ≡ codes "tag") × IsFirstTag f (Some text)
MayRefuse f other = ⊥

-- what is told of a step that is refused: where the store failed nothing, and else that
abbrev pub IsTold : Refusal → Files → Past → Type 0
IsTold (refusals.StoreFault path) f p = Unit {0}
IsTold other f p = MayRefuse f other

-- Whoever announces: a step makes one of these changes, or none, and what the announcer knows holds after it.
abbrev pub AnnouncerMoved : Phase → Phase → StoreView → StoreView → Type 0
AnnouncerMoved old new before after = (me : Actor) → Moves Stands (Makes me old) (Knows old) (Knows new) before after

-- And a step that is refused tells what is so after it.
abbrev pub AnnouncerTold : Phase → Refusal → StoreView → StoreView → Type 0
AnnouncerTold old refusal before after =
    (me : Actor) → Moves Stands (Makes me old) (Knows old) (IsTold refusal) before after

-- ---- the actor beside the past

-- Who announces stands beside the pasts, since phases don't hold it.
abbrev pub Beside : Type 0
Beside = Actor × Past

abbrev pub StandsBeside : Files → Beside → Type 0
StandsBeside f b = Stands f b.1

abbrev pub MakesBeside : Phase → Files → Beside → Files → Beside → Type 0
MakesBeside phase f b after later = (later.0 ≡ b.0) × Makes b.0 phase f b.1 after later.1

abbrev pub KnowsBeside : Phase → Files → Beside → Type 0
KnowsBeside phase f b = Knows phase f b.1

abbrev pub TellsBeside : Refusal → Files → Beside → Type 0
TellsBeside refusal f b = IsTold refusal f b.1
