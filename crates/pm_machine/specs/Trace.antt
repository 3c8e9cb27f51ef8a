-- A machine's own calls, one after another, and what they say of it.
use Rattle.std.specs.Prelude.{◌≡◌, ◌⊎◌, ℕ, List, [], ◌∷◌, ◌++◌, Option, None, Some, IsSome, IfSome}
use Rattle.pm_values.specs.declared.refusal.Refusal.{Refusal}
use Rattle.pm_values.specs.declared.refusal.Refusal.TheVariants as refusals
use Rattle.pm_store.specs.declared.answer.Answer.{Answer}
use Rattle.pm_store.specs.declared.call.Call.{Call}
use Rattle.pm_store.specs.Answers.{MayAnswer}
use Rattle.pm_store.specs.Store.{Meanwhile, StoreView, IsLater}
use Rattle.pm_machine.specs.Step.{path_of, Answered, Faulted}

-- a call that a machine made, and its answer, or none where the store failed
pub record Event : Type 0 where
  pub call : Call
  pub answer : Option Answer

abbrev pub answered : Call → Answer → Event
answered call answer = record { call = call; answer = Some answer }

abbrev pub faulted : Call → Event
faulted call = record { call = call; answer = None }

-- the call came as one operation and ended so
abbrev pub Ended : Call → Option Answer → StoreView → StoreView → Type 0
Ended call (Some answer) before after = Answered call answer before after
Ended call None before after = Faulted call before after

-- One event came, at its place among the operations, and is the next of whatever calls were made before. Or no call was
-- made, and the calls are those before.
abbrev pub Acts : (List Event → Type 0) → (List Event → Type 0) → StoreView → StoreView → Type 0
Acts did does before after =
    ((event : Event) × Ended event.call event.answer before after
    × ((own : List Event) → did own → does (own ++ event ∷ [])))
    ⊎ (Meanwhile before after × ((own : List Event) → did own → does own))

-- These events came by this handle, in this order, each at its place among the operations, and no other did.
abbrev pub Traces : List Event → StoreView → StoreView → Type 0
Traces [] before after = Meanwhile before after × IsLater before after
Traces (event ∷ own) before after =
    (middle : StoreView) × Ended event.call event.answer before middle × IsLater before middle × Traces own middle after

-- some events did, of which this holds
abbrev pub HasTrace : (List Event → Type 0) → StoreView → StoreView → Type 0
HasTrace did before after = (own : List Event) × did own × Traces own before after

-- What a machine proves once of the calls that led to it, and of those that show a refusal.
pub record Recounts {M : Type 0} (call_of : M → Option Call) (goes : M → Answer → M → Type 0)
    (refuses : M → Answer → Refusal → M → Type 0) (stops : M → M → Type 0) (did : M → List Event → Type 0)
    (shows : Refusal → List Event → Type 0) : Type 0 where
  pub went : (m new : M) (answer : Answer) (own : List Event) → goes m answer new → did m own →
      IfSome (call_of m) (λ call. MayAnswer call answer → did new (own ++ answered call answer ∷ []))
  pub refused : (m new : M) (answer : Answer) (refusal : Refusal) (own : List Event) → refuses m answer refusal new →
      did m own → IfSome (call_of m) (λ call. MayAnswer call answer →
      did new (own ++ answered call answer ∷ []) × shows refusal (own ++ answered call answer ∷ []))
  pub failed : (m new : M) (own : List Event) → stops m new → did m own → IfSome (call_of m) (λ call.
      did new (own ++ faulted call ∷ []) × shows (refusals.StoreFault (path_of call)) (own ++ faulted call ∷ []))
  pub stopped : (m new : M) (own : List Event) → IsSome (call_of m) → stops m new → did m own →
      did new own × shows refusals.Memory own

-- ---- what the calls of machines of phases show

-- The last call failed, and names its path: it was the next of a phase, after the calls that led there.
pub record IsFailed {P : Type 0} (call_of : P → Option Call) (did : P → List Event → Type 0) (path : List ℕ)
    (own : List Event) : Type 0 where
  pub phase : P
  pub call : Call
  pub earlier : List Event
  pub did_so : did phase earlier
  pub next : call_of phase ≡ Some call
  pub is_path : path ≡ path_of call
  pub is : own ≡ earlier ++ faulted call ∷ []

-- Memory ran out before the next call of a phase, or after an answer to it. Not each answer takes memory.
pub data MayEnd {P : Type 0} (call_of : P → Option Call) (did : P → List Event → Type 0)
    (Takes : P → Answer → Type 0) (own : List Event) : Type 0 where
  before_call : (m : P) → IsSome (call_of m) → did m own → MayEnd call_of did Takes own
  after_answer : (m : P) (call : Call) (answer : Answer) (earlier : List Event) → did m earlier → call_of m ≡ Some call
      → MayAnswer call answer → Takes m answer → own ≡ earlier ++ answered call answer ∷ []
      → MayEnd call_of did Takes own
