-- The call of a dropper, by its answer: what it does to a history that stands at it, where nobody else acts from then
-- on, and what it does to the past, whatever others do.
use Rattle.std.specs.Prelude.{◌≡◌, ◌≢◌, ◌⊎◌, ℕ, List, [], ◌∷◌, Contains, Bool, false, true, None, IsSome}
use Rattle.std.specs.Prelude.{Result, Ok, Err}
use Rattle.std.specs.FinMap as map
use Rattle.pm_base.specs.Faults.{Rose}
use Rattle.pm_values.specs.declared.refusal.Refusal.{Refusal}
use Rattle.pm_values.specs.declared.refusal.Refusal.TheVariants as refusals
use Rattle.pm_store.specs.Files.{Files}
use Rattle.pm_store.specs.Images.{Extends}
use Rattle.pm_store.specs.Store.{StoreView, FromFirst}
use Rattle.pm_machine.specs.Moves.{IsKept}
use Rattle.pm_machine.specs.Trace.{Event}
use Rattle.pm_model_history.specs.History.{Entry}
use Rattle.pm_schema.specs.declared.schema.TableSchema.{TableSchema}
use Rattle.pm_model_folder.specs.Changes.{HavePlainNames}
use Rattle.pm_model_folder.specs.Ledger.{Past, Stands}
use Rattle.pm_model_folder.specs.Paths.{consumer_path}
use Rattle.pm_create.specs.Making.{LeavesFiles}
use Rattle.pm_read_schema.specs.AllCalls.{HasFiles}
use Rattle.pm_read_schema.specs.Beside.{OthersAdvance}
use Rattle.pm_beside.specs.Bringing.{Brings}
use Rattle.pm_move_consumer.specs.DropperMeaning.{Drop, IsGone, MayDrop}
use Rattle.pm_move_consumer.specs.DropperTrace.{Shows, dropped}
use Rattle.pm_move_consumer.specs.MoverAllCalls.{OthersRest, StandsWith}
use Rattle.pm_move_consumer.specs.MoverMeaning.{HasPlainTable}

-- the calls of a drop, by its answer: whether a file was there was told; or they show the refusal
abbrev pub DidDrop : List ℕ → Result Bool Refusal → List Event → Type 0
DidDrop name (Ok was_there) own = own ≡ dropped name was_there ∷ []
DidDrop name (Err refusal) own = Shows name refusal own

-- ---- a history that stands at its call, where nobody else acts from then on

-- the consumer's file is as it was
abbrev pub ItRests : List ℕ → Files → Files → Type 0
ItRests name f after = map.get after (consumer_path name) ≡ map.get f (consumer_path name)

-- it was there, and is absent
abbrev pub ItGoes : List ℕ → Files → Files → Type 0
ItGoes name f after = IsSome (map.get f (consumer_path name)) × (map.get after (consumer_path name) ≡ None)

-- what an answer leaves of it: it went where it was there; or it is as it was, but that a fault of the store leaves it
-- so or so
abbrev pub ItLeaves : List ℕ → Result Bool Refusal → Files → Files → Type 0
ItLeaves name (Ok true) f after = ItGoes name f after
ItLeaves name (Err (refusals.StoreFault path)) f after = ItRests name f after ⊎ ItGoes name f after
ItLeaves name other f after = ItRests name f after

-- these are some of those names, without this one
abbrev pub AreOthersOf : List ℕ → List (List ℕ) → List (List ℕ) → Type 0
AreOthersOf name names others =
    (other : List ℕ) → Contains others other → Contains names other × (other ≢ name)

-- The files stand for the table, and who was settled is: but for the consumer of this name, once its file has gone.
pub record StandsWithout (name : List ℕ) (s : TableSchema) (entries : List Entry) (names : List (List ℕ))
    (f after : Files) : Type 0 where
  pub others : (others : List (List ℕ)) → AreOthersOf name names others → StandsWith s entries others after
  pub rests : ItRests name f after → StandsWith s entries names after

-- what an answer needs at the call: a file was there, or none was; or a fault was counted since
abbrev pub IsCaused : List ℕ → Files → StoreView → StoreView → Result Bool Refusal → Type 0
IsCaused name f first after (Ok true) = IsSome (map.get f (consumer_path name))
IsCaused name f first after (Ok false) = map.get f (consumer_path name) ≡ None
IsCaused name f first after (Err refusals.Memory) = Unit {0}
IsCaused name f first after (Err (refusals.StoreFault path)) =
    (path ≡ consumer_path name) × Rose first.faults after.faults
IsCaused name f first after (Err other) = ⊥

-- it was told whether a file was there, or memory ran out
abbrev pub IsToldOrMemory : Result Bool Refusal → Type 0
IsToldOrMemory (Ok was_there) = Unit {0}
IsToldOrMemory (Err refusals.Memory) = Unit {0}
IsToldOrMemory (Err other) = ⊥

-- What a drop does to a table that stands at its call, where nobody else acts from then on. Only the consumer's file is
-- another, after it and in each image; the table stands, and every other consumer that was settled is. Where no fault
-- is counted, it is told whether a file was there.
pub record DropsName (name : List ℕ) (s : TableSchema) (entries : List Entry) (names : List (List ℕ)) (f : Files)
    (first after : StoreView) (result : Result Bool Refusal) : Type 0 where
  pub leaves : LeavesFiles (λ g. OthersRest (consumer_path name) f g × ItLeaves name result f g
      × StandsWithout name s entries names f g) after
  pub images : Extends (λ g. OthersRest (consumer_path name) f g × (ItRests name f g ⊎ ItGoes name f g)
      × StandsWithout name s entries names f g) first.ops after.ops
  pub cause : IsCaused name f first after result
  pub complete : (Rose first.faults after.faults → ⊥) → IsToldOrMemory result

-- what it promises of tables, from its call on
abbrev pub DropsNames : List ℕ → StoreView → StoreView → Result Bool Refusal → Type 0
DropsNames name before after result =
    FromFirst (λ first after. (s : TableSchema) (entries : List Entry) (names : List (List ℕ)) (f : Files)
    → HasFiles f first → StandsWith s entries names f → HavePlainNames s
    → DropsName name s entries names f first after result) before after

-- ---- whatever others do

-- nothing was there, and nothing changed
abbrev pub WasAbsent : Drop → Files → Past → Files → Past → Type 0
WasAbsent d f p after later = (map.get f (consumer_path d.name) ≡ None) × IsKept f p after later

-- what its call makes of the files and of the past, by its answer
abbrev pub ItChanges : Drop → Result Bool Refusal → Files → Past → Files → Past → Type 0
ItChanges d (Ok true) f p after later = IsGone d f p after later
ItChanges d (Ok false) f p after later = WasAbsent d f p after later
ItChanges d (Err (refusals.StoreFault path)) f p after later = MayDrop d f p after later
ItChanges d (Err other) f p after later = IsKept f p after later

-- To each past that has a table its call brings this, whatever others do.
abbrev pub DropsOn : Drop → Result Bool Refusal → StoreView → StoreView → Type 0
DropsOn d result before after = Brings Stands (ItChanges d result) OthersAdvance
    (λ f p. HasPlainTable p.history) (λ f p. HasPlainTable p.history) before after
