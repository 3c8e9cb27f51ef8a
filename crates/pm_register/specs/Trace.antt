-- A registrar's own calls, and what they show.
use Rattle.std.specs.Prelude.{◌≡◌, ◌⊎◌, ℕ, List, [], ◌∷◌, ◌++◌, Option, None, Some, Result, IfErr}
use Rattle.pm_values.specs.declared.refusal.Refusal.{Refusal}
use Rattle.pm_values.specs.declared.refusal.Refusal.TheVariants as refusals
use Rattle.pm_store.specs.declared.answer.Answer.{Answer}
use Rattle.pm_store.specs.declared.answer.Answer.TheVariants as answers
use Rattle.pm_store.specs.declared.answer.Swapped.TheVariants as swaps
use Rattle.pm_store.specs.Store.{StoreView}
use Rattle.pm_machine.specs.Trace.{Event, Acts, answered, faulted}
use Rattle.pm_model_folder.specs.Paths.{consumer_path, floor_folder}
use Rattle.pm_read_schema.specs.Trace.{Names}
use Rattle.pm_consumer_files.specs.Floors.{Exceeds}
use Rattle.pm_register.specs.Registrar.{IsOf, Registering, floors_call, new_call, registration_of, settle_call}
use Rattle.pm_register.specs.declared.phase.Phase.{Phase}
use Rattle.pm_register.specs.declared.phase.Phase.TheVariants as phases
use Rattle.pm_register.specs.declared.registrar.RegisterStep.{RegisterStep}

-- the consumer was made new
abbrev pub put_new : Registering → Event
put_new r = answered (new_call (registration_of r) r.found) (answers.Swapped swaps.Swapped)

-- the floors were listed
abbrev pub listed_floors : Names → Event
listed_floors names = answered floors_call (answers.Listed names)

-- the consumer was settled
abbrev pub put_known : Registering → Event
put_known r = answered (settle_call (registration_of r)) (answers.Swapped swaps.Swapped)

-- its file was another by then
abbrev pub met_first : Registering → Option (List ℕ) → Event
met_first r other = answered (new_call (registration_of r) r.found) (answers.Swapped (swaps.Differs other))

abbrev pub met_later : Registering → Option (List ℕ) → Event
met_later r other = answered (settle_call (registration_of r)) (answers.Swapped (swaps.Differs other))

-- it was made new, and of the floors that were listed then this exceeds its number, or none does
abbrev pub HasFloors : Registering → Option ℕ → List Event → Type 0
HasFloors r floor own =
    (names : Names) × Exceeds names.items r.next floor × (own ≡ put_new r ∷ listed_floors names ∷ [])

-- and once none did it was settled
abbrev pub HasSettled : Registering → List Event → Type 0
HasSettled r own = (earlier : List Event) × HasFloors r None earlier × (own ≡ earlier ++ put_known r ∷ [])

-- its calls so far, before its end
abbrev pub DidSoFar : Registering → Phase → List Event → Type 0
DidSoFar r (phases.New found x) own = IsOf r (phases.New found x) × (own ≡ [])
DidSoFar r (phases.Floors x) own = IsOf r (phases.Floors x) × (own ≡ put_new r ∷ [])
DidSoFar r (phases.Settle x) own = IsOf r (phases.Settle x) × HasFloors r None own
DidSoFar r phases.Settled own = HasSettled r own
DidSoFar r phases.Over own = ⊥

-- no answer is followed by what takes memory
abbrev pub MayTakeMemory : Phase → Answer → Type 0
MayTakeMemory m answer = ⊥

-- Which calls of a consumer's registrar show a refusal: that the file was another, a swap that was answered so, with
-- what it found; that a floor exceeds the number, a listing whose greatest that floor is; a fault of the store, a call
-- of that path that failed. Out of memory no call was refused or failed, and none settled the consumer. No call
-- followed one that was refused or failed.
abbrev pub Shows : Registering → Refusal → List Event → Type 0
Shows r refusals.Memory own = (own ≡ []) ⊎ ((own ≡ put_new r ∷ []) ⊎ HasFloors r None own)
Shows r (refusals.ConsumerMoved other) own =
    (own ≡ met_first r other ∷ [])
    ⊎ ((earlier : List Event) × HasFloors r None earlier × (own ≡ earlier ++ met_later r other ∷ []))
Shows r (refusals.BelowFloor next floor) own = (next ≡ r.next) × HasFloors r (Some floor) own
Shows r (refusals.StoreFault path) own =
    ((path ≡ consumer_path r.name) × (own ≡ faulted (new_call (registration_of r) r.found) ∷ []))
    ⊎ (((path ≡ floor_folder) × (own ≡ put_new r ∷ faulted floors_call ∷ []))
    ⊎ ((path ≡ consumer_path r.name) × (earlier : List Event) × HasFloors r None earlier
    × (own ≡ earlier ++ faulted (settle_call (registration_of r)) ∷ [])))
Shows r other own = ⊥

-- its calls so far, by its phase: at its end they show a refusal
abbrev pub Did : Registering → Phase → List Event → Type 0
Did r phases.Over own = (refusal : Refusal) × Shows r refusal own
Did r m own = DidSoFar r m own

-- Whichever consumer is registered, its next call is the next event of its calls so far, or none was made; and a
-- refusal is shown by the calls up to it.
abbrev pub RegistrarActed : Phase → Phase → StoreView → StoreView → Result RegisterStep Refusal → Type 0
RegistrarActed old new before after result = (r : Registering)
    → Acts (Did r old) (λ own. Did r new own × IfErr result (λ refusal. Shows r refusal own)) before after
