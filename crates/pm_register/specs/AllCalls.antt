-- All calls of a registrar, one after another: what they are, what they do to a history that stands at the first one,
-- where nobody else acts from then on, and what they bring to any past beside others.
use Rattle.std.specs.Prelude.{◌≡◌, ◌≢◌, ◌⊎◌, ℕ, suc, ◌<◌, ◌≤◌, List, [], ◌∷◌, length, Option, Some, IsSome}
use Rattle.std.specs.Prelude.{false, Result, Ok, Err, IfOk}
use Rattle.std.specs.FinMap as map
use Rattle.pm_base.specs.Faults.{Rose}
use Rattle.pm_values.specs.declared.refusal.Refusal.{Refusal}
use Rattle.pm_values.specs.declared.refusal.Refusal.TheVariants as refusals
use Rattle.pm_store.specs.Files.{Files}
use Rattle.pm_store.specs.Images.{Extends}
use Rattle.pm_store.specs.Store.{StoreView, FromFirst, Meanwhile}
use Rattle.pm_machine.specs.Trace.{Event}
use Rattle.pm_model_consumers.specs.Claims.{free, known_at, settled}
use Rattle.pm_model_history.specs.History.{Entry, table}
use Rattle.pm_schema.specs.declared.schema.TableSchema.{TableSchema}
use Rattle.pm_snapshot.specs.Names.{greatest}
use Rattle.pm_model_folder.specs.Changes.{Actor, HavePlainNames}
use Rattle.pm_model_folder.specs.Consumers.{said_at}
use Rattle.pm_model_folder.specs.Folder.{Folder, HaveSettled}
use Rattle.pm_model_folder.specs.Ledger.{Past, Stands}
use Rattle.pm_model_folder.specs.Paths.{consumer_path, floor_path}
use Rattle.pm_create.specs.Making.{LeavesFiles}
use Rattle.pm_read_schema.specs.AllCalls.{HasFiles}
use Rattle.pm_beside.specs.Bringing.{Brings, OthersApart, OthersSpare}
use Rattle.pm_register.specs.Meaning.{HasPut, IsWithin, Registers, WaitsIn}
use Rattle.pm_register.specs.Registrar.{Registering, known_text, new_text}
use Rattle.pm_register.specs.Trace.{HasSettled, Shows}

-- The calls of a registering, by its answer: the consumer was made new and, once no floor that was listed exceeded its
-- number, settled; or they show the refusal.
abbrev pub DidRegister : Registering → Result (Unit {0}) Refusal → List Event → Type 0
DidRegister r (Ok x) own = HasSettled r own
DidRegister r (Err refusal) own = Shows r refusal own

-- every other file is as it was
abbrev pub OnlyIts : Registering → Files → Files → Type 0
OnlyIts r f after = (path : List ℕ) → path ≢ consumer_path r.name → map.get after path ≡ map.get f path

-- what is at the consumer's path: what was found, or the consumer that is new; or the one that is settled
abbrev pub IsFoundOrNew : Registering → Option (List ℕ) → Type 0
IsFoundOrNew r content = (content ≡ r.found) ⊎ (content ≡ Some (new_text r.next))

abbrev pub IsFoundOrPut : Registering → Option (List ℕ) → Type 0
IsFoundOrPut r content = IsFoundOrNew r content ⊎ (content ≡ Some (known_text r.next))

-- What an answer leaves at the consumer's path: once it is registered the consumer that is settled; the new one where a
-- floor exceeds the number; and the one that is settled after a fault of the store alone.
abbrev pub LeavesAt : Registering → Result (Unit {0}) Refusal → Option (List ℕ) → Type 0
LeavesAt r (Ok x) content = content ≡ Some (known_text r.next)
LeavesAt r (Err refusals.Memory) content = IsFoundOrNew r content
LeavesAt r (Err (refusals.BelowFloor next floor)) content = content ≡ Some (new_text r.next)
LeavesAt r (Err (refusals.StoreFault path)) content = IsFoundOrPut r content
LeavesAt r (Err other) content = ⊥

-- the floor of this number is there
abbrev pub IsFloorIn : Files → ℕ → Type 0
IsFloorIn f n = (n ≤ greatest) × IsSome (map.get f (floor_path n))

-- no floor exceeds the number
abbrev pub NoneExceeds : Files → ℕ → Type 0
NoneExceeds f next = (n : ℕ) → IsFloorIn f n → n ≤ next

-- this floor does, and it is the greatest
pub record IsGreatest (f : Files) (next floor : ℕ) : Type 0 where
  pub is : IsFloorIn f floor
  pub exceeds : next < floor
  pub most : NoneExceeds f floor

-- what an answer needs at the first call: a floor exceeds the number, or none does; a fault was counted since
abbrev pub IsCaused : Registering → Files → StoreView → StoreView → Result (Unit {0}) Refusal → Type 0
IsCaused r f first after (Ok x) = NoneExceeds f r.next
IsCaused r f first after (Err refusals.Memory) = Unit {0}
IsCaused r f first after (Err (refusals.BelowFloor next floor)) = (next ≡ r.next) × IsGreatest f next floor
IsCaused r f first after (Err (refusals.StoreFault path)) = Rose first.faults after.faults
IsCaused r f first after (Err other) = ⊥

-- the consumer was registered, or memory ran out
abbrev pub IsRegisteredOrMemory : Result (Unit {0}) Refusal → Type 0
IsRegisteredOrMemory (Ok x) = Unit {0}
IsRegisteredOrMemory (Err refusals.Memory) = Unit {0}
IsRegisteredOrMemory (Err other) = ⊥

-- the files stand for the table, its consumers of these names are settled, and this was found of the one to register
pub record MayRegister (r : Registering) (s : TableSchema) (entries : List Entry) (names : List (List ℕ)) (f : Files)
    : Type 0 where
  pub folder : Folder f (table s entries)
  pub settled : HaveSettled f (table s entries) names
  pub plain : HavePlainNames s
  pub found : map.get f (consumer_path r.name) ≡ r.found
  pub next : r.next ≤ suc (length entries)

-- What files are that it leaves of these: only the consumer's is another, the table stands, and who was settled is;
-- the consumer, too, wherever its file is the one that is settled.
pub record IsLeft (r : Registering) (s : TableSchema) (entries : List Entry) (names : List (List ℕ)) (f g : Files)
    : Type 0 where
  pub only : OnlyIts r f g
  pub folder : Folder g (table s entries)
  pub settled : HaveSettled g (table s entries) names
  pub known : map.get g (consumer_path r.name) ≡ Some (known_text r.next)
      → HaveSettled g (table s entries) (r.name ∷ names)

-- What a registering does to a table that stands at its first call, where nobody else acts from then on: what it leaves
-- after it and in each image. Once it is registered the consumer is settled in each later image. Where no floor exceeds
-- the number and no fault is counted, it is registered.
pub record RegistersName (r : Registering) (s : TableSchema) (entries : List Entry) (names : List (List ℕ)) (f : Files)
    (first after : StoreView) (result : Result (Unit {0}) Refusal) : Type 0 where
  pub leaves : LeavesFiles (λ g. IsLeft r s entries names f g × LeavesAt r result (map.get g (consumer_path r.name)))
      after
  pub images : Extends (λ g. IsLeft r s entries names f g × IsFoundOrPut r (map.get g (consumer_path r.name)))
      first.ops after.ops
  pub settles : IfOk result (λ x. Extends (λ g. IsLeft r s entries names f g
      × (map.get g (consumer_path r.name) ≡ Some (known_text r.next))) after.ops after.ops)
  pub cause : IsCaused r f first after result
  pub complete : NoneExceeds f r.next → (Rose first.faults after.faults → ⊥) → IsRegisteredOrMemory result

-- what it promises of tables, from its first call on
abbrev pub RegistersNames : Registering → StoreView → StoreView → Result (Unit {0}) Refusal → Type 0
RegistersNames r before after result =
    FromFirst (λ first after. (s : TableSchema) (entries : List Entry) (names : List (List ℕ)) (f : Files)
    → HasFiles f first → MayRegister r s entries names f → RegistersName r s entries names f first after result)
    before after

-- ---- beside others

-- the name is settled with this number, and was moved past no frame yet
abbrev pub HasJoined : Registering → Past → Type 0
HasJoined r p = p.claims r.name ≡ settled r.next []

-- What an answer leaves to a past, whatever others did: once the consumer is registered its file says so, and its name
-- has joined those that are settled, or nothing is known of it, since another touched the file before; where a floor
-- exceeds the number the file is the new one, or was touched.
abbrev pub LeavesBeside : Actor → Registering → Result (Unit {0}) Refusal → Files → Past → Type 0
LeavesBeside me r (Ok x) f p = (said_at f r.name ≡ Some (known_at r.next))
    × (HasJoined r p ⊎ (p.claims r.name ≡ free))
LeavesBeside me r (Err (refusals.BelowFloor next floor)) f p = HasPut me r false f p
LeavesBeside me r (Err other) f p = Unit {0}

-- and where nobody touched it while the actor waited: it has joined them; or the file is the new one, and it waits
abbrev pub LeavesSpared : Actor → Registering → Result (Unit {0}) Refusal → Files → Past → Type 0
LeavesSpared me r (Ok x) f p = (said_at f r.name ≡ Some (known_at r.next)) × HasJoined r p
LeavesSpared me r (Err (refusals.BelowFloor next floor)) f p = WaitsIn me r false f p
LeavesSpared me r (Err other) f p = Unit {0}

-- What all calls bring to any past, for whichever actor: each is one of its changes, whatever other actors do between,
-- and right after the last of them this is left. Others alone came since.
pub record RegistersAmong (me : Actor) (r : Registering) (before after : StoreView)
    (result : Result (Unit {0}) Refusal) : Type 0 where
  pub last : StoreView
  pub rest : Meanwhile last after
  pub brings : Brings Stands (Registers me r) (OthersApart me) (λ f p. IsWithin r p)
      (λ f p. IsWithin r p × LeavesBeside me r result f p) before last
  pub spared : Brings Stands (Registers me r) (OthersSpare me r.name) (λ f p. IsWithin r p)
      (λ f p. IsWithin r p × LeavesSpared me r result f p) before last
