-- What a registrar knows of the files and of what is known of its name, and what its steps mean for them.
use Rattle.std.specs.Prelude.{◌≡◌, ◌≢◌, ◌⊎◌, ℕ, suc, ◌≤◌, List, Bool, true, false, Some}
use Rattle.std.specs.FinMap as map
use Rattle.pm_store.specs.Files.{Files}
use Rattle.pm_store.specs.Store.{StoreView}
use Rattle.pm_machine.specs.Moves.{Moves}
use Rattle.pm_model_consumers.specs.Changes.{HasLost}
use Rattle.pm_model_consumers.specs.Claims.{known_at, new_at, waits}
use Rattle.pm_model_history.specs.History.{IsTableOf}
use Rattle.pm_schema.specs.declared.schema.TableSchema.{TableSchema}
use Rattle.pm_model_folder.specs.Changes.{Actor, HavePlainNames}
use Rattle.pm_model_folder.specs.Consumers.{follower_of, said_at}
use Rattle.pm_model_folder.specs.Ledger.{Advances, Past, Stands, count_of}
use Rattle.pm_model_folder.specs.Paths.{consumer_path}
use Rattle.pm_register.specs.Registrar.{IsOf, IsRegistering, Registering, new_text}
use Rattle.pm_register.specs.declared.phase.Phase.{Phase}
use Rattle.pm_register.specs.declared.phase.Phase.TheVariants as phases

-- What the registrar of an actor may change: that actor's kinds of change, and of these only the file of its consumer
-- and what is known of that name. A file that is settled it leaves.
pub record Registers (me : Actor) (r : Registering) (f : Files) (p : Past) (after : Files) (later : Past) : Type 0 where
  pub advances : Advances me f p after later
  pub history : later.history ≡ p.history
  pub files : (path : List ℕ) → path ≢ consumer_path r.name → map.get after path ≡ map.get f path
  pub claims : (other : List ℕ) → other ≢ r.name → later.claims other ≡ p.claims other
  pub keeps : (next : ℕ) → said_at f r.name ≡ Some (known_at next)
      → (path : List ℕ) → map.get after path ≡ map.get f path

-- Its next call makes the consumer new. Where that leads from what was found to the consumer that is new, its actor
-- waits from then on, also where these bytes were the same.
abbrev pub PutsNew : Actor → Registering → Phase → Files → Files → Past → Type 0
PutsNew me r (phases.New found x) f after later = map.get f (consumer_path r.name) ≡ r.found
    → map.get after (consumer_path r.name) ≡ Some (new_text r.next)
    → later.claims r.name ≡ waits (follower_of me) false
PutsNew me r other f after later = Unit {0}

-- what it may change in a phase
abbrev pub RegistersAt : Actor → Registering → Phase → Files → Past → Files → Past → Type 0
RegistersAt me r m f p after later = Registers me r f p after later × PutsNew me r m f after later

-- A table is there, whose names lead to no file of a consumer, and the snapshot to be read next is at most one above
-- the newest.
pub record IsWithin (r : Registering) (p : Past) : Type 0 where
  pub schema : TableSchema
  pub is : IsTableOf schema p.history
  pub plain : HavePlainNames schema
  pub next : r.next ≤ suc (count_of p.history)

-- the actor that put this number into the file waits, with the floors listed or not, and nobody touched the file since
pub record WaitsIn (me : Actor) (r : Registering) (listed : Bool) (f : Files) (p : Past) : Type 0 where
  pub claim : p.claims r.name ≡ waits (follower_of me) listed
  pub file : said_at f r.name ≡ Some (new_at r.next)

-- it waits, or somebody touched the file since
abbrev pub HasPut : Actor → Registering → Bool → Files → Past → Type 0
HasPut me r listed f p = WaitsIn me r listed f p ⊎ HasLost (follower_of me) (p.claims r.name)

-- What the registrar knows of its name in each phase, whatever others do: after its first call, that it waits or was
-- touched; after the second, that it has listed the floors if it waits; once it is settled nothing, since others may
-- move or drop it.
abbrev pub KnowsAt : Actor → Registering → Phase → Files → Past → Type 0
KnowsAt me r (phases.Floors x) f p = HasPut me r false f p
KnowsAt me r (phases.Settle x) f p = HasPut me r true f p
KnowsAt me r other f p = Unit {0}

abbrev pub Knows : Actor → Registering → Phase → Files → Past → Type 0
Knows me r phase f p = IsRegistering r × IsOf r phase × IsWithin r p × KnowsAt me r phase f p

-- Whichever consumer is registered, and for whichever actor: a step makes one of these changes, or none, and what the
-- registrar knows holds after it.
abbrev pub RegistrarMoved : Phase → Phase → StoreView → StoreView → Type 0
RegistrarMoved old new before after = (me : Actor) (r : Registering)
    → Moves Stands (RegistersAt me r old) (Knows me r old) (Knows me r new) before after

-- ---- the consumer beside the past

-- The consumer and who registers it stand beside the pasts, since phases don't hold them: what is known and changed in
-- each depends on both, and they stay.
abbrev pub Beside : Type 0
Beside = Actor × Registering × Past

abbrev pub StandsBeside : Files → Beside → Type 0
StandsBeside f b = Stands f b.2

abbrev pub RegistersBeside : Phase → Files → Beside → Files → Beside → Type 0
RegistersBeside phase f b after later =
    (later.0 ≡ b.0) × (later.1 ≡ b.1) × RegistersAt b.0 b.1 phase f b.2 after later.2

abbrev pub KnowsBeside : Phase → Files → Beside → Type 0
KnowsBeside phase f b = Knows b.0 b.1 phase f b.2
