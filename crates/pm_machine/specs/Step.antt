-- What one step of a machine is: at most one call of the store, and what the machine makes of its answer.
use Rattle.std.specs.Prelude.{◌≡◌, ℕ, List, Option, None, Some, Result, Ok, Err}
use Rattle.pm_base.specs.Faults.{Rose}
use Rattle.pm_values.specs.declared.refusal.Refusal.{Refusal}
use Rattle.pm_values.specs.declared.refusal.Refusal.TheVariants as refusals
use Rattle.pm_store.specs.declared.answer.Answer.{Answer}
use Rattle.pm_store.specs.declared.call.Call.{Call}
use Rattle.pm_store.specs.declared.call.Call.TheVariants as calls
use Rattle.pm_store.specs.declared.store.StoreFail.{StoreFail}
use Rattle.pm_store.specs.declared.store.StoreFail.TheVariants as fails
use Rattle.pm_store.specs.Answers.{Answers, MayAnswer, StepsInPart, Tells}
use Rattle.pm_store.specs.Files.{files_after}
use Rattle.pm_store.specs.Store.{whole, Meanwhile, Steps, StoreView}

-- the path that is named where the call fails: the folder of a list, and of a publish its own path
abbrev pub path_of : Call → List ℕ
path_of (calls.List folder) = folder
path_of (calls.Read path) = path
path_of (calls.Create path bytes) = path
path_of (calls.Publish after path bytes) = path
path_of (calls.Swap path expected bytes) = path
path_of (calls.Remove path) = path

-- Private: why a command is refused whose call the store didn't answer
abbrev pub refusal_of : StoreFail → Call → Refusal
refusal_of fails.Memory call = refusals.Memory
refusal_of fails.Failed call = refusals.StoreFault (path_of call)

-- the call came as one operation, and was answered by the files before it
abbrev pub Answered : Call → Answer → StoreView → StoreView → Type 0
Answered call answer before after =
    Steps (whole call) (λ ops. Answers call answer (files_after ops)) before after × MayAnswer call answer

-- the call came as one operation, of which the store may have carried out a part, since it failed
abbrev pub Faulted : Call → StoreView → StoreView → Type 0
Faulted call before after = StepsInPart call before after × Rose before.faults after.faults

-- Private: what came of a machine's next call, if it has one
abbrev pub Called : Option Call → StoreView → StoreView → Result (Option Answer) Refusal → Type 0
Called next before after (Ok None) = (next ≡ None) × (after ≡ before)
Called next before after (Ok (Some answer)) =
    (call : Call) × (next ≡ Some call) × Answered call answer before after
Called next before after (Err refusal) =
    (call : Call) × (next ≡ Some call) × ((fail : StoreFail) × (refusal ≡ refusal_of fail call)
    × Tells call (λ (answer : Answer). answer) before after (Err fail))

-- what a step did with a machine and a store, and what it answered
pub data Stepped {M : Type 0} (call_of : M → Option Call) (goes : M → Answer → M → Type 0)
    (refuses : M → Answer → Refusal → M → Type 0) (stops : M → M → Type 0) (old new : M) (before after : StoreView) :
    Result (Unit {0}) Refusal → Type 0 where
  -- at its end, nothing
  Rested : call_of old ≡ None → new ≡ old → after ≡ before →
      Stepped call_of goes refuses stops old new before after (Ok tt)
  -- it made its call, and goes on with the answer
  Went : (call : Call) (answer : Answer) → call_of old ≡ Some call → Answered call answer before after →
      goes old answer new → Stepped call_of goes refuses stops old new before after (Ok tt)
  -- it made its call, and the answer shows a refusal
  Refused : (call : Call) (answer : Answer) (refusal : Refusal) → call_of old ≡ Some call →
      Answered call answer before after → refuses old answer refusal new →
      Stepped call_of goes refuses stops old new before after (Err refusal)
  -- it ran out of memory, and its call was not made
  Stopped : (call : Call) → call_of old ≡ Some call → Meanwhile before after → stops old new →
      Stepped call_of goes refuses stops old new before after (Err refusals.Memory)
  -- the store failed in its call
  Failed : (call : Call) → call_of old ≡ Some call → Faulted call before after → stops old new →
      Stepped call_of goes refuses stops old new before after (Err (refusals.StoreFault (path_of call)))
