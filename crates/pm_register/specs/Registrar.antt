-- A registrar of a consumer: its phases, its calls, and what each answer leads to.
use Rattle.std.specs.Prelude.{◌≡◌, ℕ, ◌+◌, ◌≤◌, List, Bool, true, false, Option, None, Some, IfSome, Ok}
use Rattle.pm_values.specs.declared.refusal.Refusal.{Refusal}
use Rattle.pm_values.specs.declared.refusal.Refusal.TheVariants as refusals
use Rattle.pm_store.specs.declared.answer.Answer.{Answer}
use Rattle.pm_store.specs.declared.answer.Answer.TheVariants as answers
use Rattle.pm_store.specs.declared.answer.Swapped.TheVariants as swaps
use Rattle.pm_store.specs.declared.call.Call.{Call}
use Rattle.pm_store.specs.declared.call.Call.TheVariants as calls
use Rattle.pm_snapshot.specs.Consumer.{consumer_in, consumer_text}
use Rattle.pm_snapshot.specs.declared.consumer.Consumer.{Consumer}
use Rattle.pm_model_folder.specs.Changes.{IsPlain}
use Rattle.pm_model_folder.specs.Paths.{consumer_path, floor_folder}
use Rattle.pm_consumer_files.specs.Floors.{Exceeds}
use Rattle.pm_register.specs.declared.phase.Phase.{Phase}
use Rattle.pm_register.specs.declared.phase.Phase.TheVariants as phases
use Rattle.pm_register.specs.declared.phase.Registration.{Registration}
use Rattle.pm_register.specs.declared.registrar.RegisterStep.{RegisterStep}
use Rattle.pm_register.specs.declared.registrar.RegisterStep.TheVariants as steps

-- ---- what contracts see

-- a consumer that reads this snapshot next, and is new or not
abbrev pub consumer_at : ℕ → Bool → Consumer
consumer_at next fresh = record { next = next; fresh = fresh }

-- the bytes of its file
abbrev pub new_text : ℕ → List ℕ
new_text next = consumer_text (consumer_at next true)

abbrev pub known_text : ℕ → List ℕ
known_text next = consumer_text (consumer_at next false)

-- a consumer that is registered: its name, what was found at its path, and the snapshot to be read next
pub record Registering : Type 0 where
  pub name : List ℕ
  pub found : Option (List ℕ)
  pub next : ℕ

abbrev pub registering : List ℕ → Option (List ℕ) → ℕ → Registering
registering name found next = record { name = name; found = found; next = next }

-- no file was found, or the file of a consumer that is new
abbrev pub IsUnregistered : Option (List ℕ) → Type 0
IsUnregistered found = IfSome found (λ bytes. (next : ℕ) × (consumer_in bytes ≡ Ok (consumer_at next true)))

-- what a consumer that is registered is: its name leads to a file of its own, nothing that is settled was found there,
-- and it reads a snapshot after the origin next
pub record IsRegistering (r : Registering) : Type 0 where
  pub plain : IsPlain r.name
  pub found : IsUnregistered r.found
  pub next : 1 ≤ r.next

-- what its phases hold
abbrev pub registration_of : Registering → Registration
registration_of r =
    record { path = consumer_path r.name; next = r.next; fresh = new_text r.next; known = known_text r.next }

-- what a phase holds is the consumer's
abbrev pub IsOf : Registering → Phase → Type 0
IsOf r (phases.New found x) = (found ≡ r.found) × (x ≡ registration_of r)
IsOf r (phases.Floors x) = x ≡ registration_of r
IsOf r (phases.Settle x) = x ≡ registration_of r
IsOf r other = Unit {0}

-- ---- its calls

-- the call that makes the consumer new, from what was found
abbrev pub new_call : Registration → Option (List ℕ) → Call
new_call x found = calls.Swap x.path found x.fresh

-- the call that lists the floors
abbrev pub floors_call : Call
floors_call = calls.List floor_folder

-- the call that settles it, from the bytes that made it new
abbrev pub settle_call : Registration → Call
settle_call x = calls.Swap x.path (Some x.fresh) x.known

-- its next call, or none at its end
abbrev pub next_call : Phase → Option Call
next_call (phases.New found x) = Some (new_call x found)
next_call (phases.Floors x) = Some floors_call
next_call (phases.Settle x) = Some (settle_call x)
next_call phases.Settled = None
next_call phases.Over = None

-- how many calls are left, where no refusal comes
abbrev pub calls_left : Phase → ℕ
calls_left (phases.New found x) = 3
calls_left (phases.Floors x) = 2
calls_left (phases.Settle x) = 1
calls_left phases.Settled = 0
calls_left phases.Over = 0

-- ---- what answers lead to

-- The phase after an answer that it goes on with: the consumer is new, no floor that was listed exceeds its number, and
-- then it is settled.
abbrev pub Goes : Phase → Answer → Phase → Type 0
Goes (phases.New found x) (answers.Swapped swaps.Swapped) later = later ≡ phases.Floors x
Goes (phases.Floors x) (answers.Listed names) later = Exceeds names.items x.next None × (later ≡ phases.Settle x)
Goes (phases.Settle x) (answers.Swapped swaps.Swapped) later = later ≡ phases.Settled
Goes phase other later = ⊥

-- the refusal that an answer shows: the file was another by then, or a floor exceeds the number, of which the greatest
-- is told
abbrev pub Shown : Phase → Answer → Refusal → Type 0
Shown (phases.New found x) (answers.Swapped (swaps.Differs other)) refusal = refusal ≡ refusals.ConsumerMoved other
Shown (phases.Floors x) (answers.Listed names) refusal =
    (floor : ℕ) × Exceeds names.items x.next (Some floor) × (refusal ≡ refusals.BelowFloor x.next floor)
Shown (phases.Settle x) (answers.Swapped (swaps.Differs other)) refusal = refusal ≡ refusals.ConsumerMoved other
Shown phase other refusal = ⊥

-- what a step that goes on has reached
abbrev pub Reaches : RegisterStep → Phase → Type 0
Reaches steps.More (phases.Floors x) = Unit {0}
Reaches steps.More (phases.Settle x) = Unit {0}
Reaches steps.More other = ⊥
Reaches steps.Settled new = new ≡ phases.Settled

-- Private: the answer of a step that went on, by the phase that it reached
abbrev pub reached_at : Phase → RegisterStep
reached_at phases.Settled = steps.Settled
reached_at other = steps.More

-- one call was made, and what the phase holds is still the consumer's, whichever that is
pub record GoesOnce (old new : Phase) : Type 0 where
  pub fewer : calls_left new + 1 ≡ calls_left old
  pub holds : (r : Registering) → IsOf r old → IsOf r new
