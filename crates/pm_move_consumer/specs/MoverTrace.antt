-- A mover's own call, and what it shows.
use Rattle.std.specs.Prelude.{◌≡◌, ℕ, List, [], ◌∷◌, Option, Some, Result, IfErr}
use Rattle.pm_values.specs.declared.refusal.Refusal.{Refusal}
use Rattle.pm_values.specs.declared.refusal.Refusal.TheVariants as refusals
use Rattle.pm_store.specs.declared.answer.Answer.{Answer}
use Rattle.pm_store.specs.declared.answer.Answer.TheVariants as answers
use Rattle.pm_store.specs.declared.answer.Swapped.TheVariants as swaps
use Rattle.pm_store.specs.declared.call.Call.{Call}
use Rattle.pm_store.specs.declared.call.Call.TheVariants as calls
use Rattle.pm_store.specs.Store.{StoreView}
use Rattle.pm_machine.specs.Trace.{Acts, Event, answered, faulted}
use Rattle.pm_move_consumer.specs.Mover.{IsOf, Moving, its_path, moved_text}
use Rattle.pm_move_consumer.specs.declared.move_phase.MovePhase.{MovePhase}
use Rattle.pm_move_consumer.specs.declared.move_phase.MovePhase.TheVariants as phases

-- its call: the file is to have the bytes of the next number, where it has those that are expected
abbrev pub swap_call : Moving → Call
swap_call m = calls.Swap (its_path m) (Some m.expected) (moved_text m)

-- the consumer was moved
abbrev pub moved : Moving → Event
moved m = answered (swap_call m) (answers.Swapped swaps.Swapped)

-- its file was another by then
abbrev pub met : Moving → Option (List ℕ) → Event
met m found = answered (swap_call m) (answers.Swapped (swaps.Differs found))

-- its calls so far, before its end
abbrev pub DidSoFar : Moving → MovePhase → List Event → Type 0
DidSoFar m (phases.Swap path expected bytes) own = IsOf m (phases.Swap path expected bytes) × (own ≡ [])
DidSoFar m (phases.Moved bytes) own = (bytes ≡ moved_text m) × (own ≡ moved m ∷ [])
DidSoFar m phases.Over own = ⊥

-- no answer is followed by what takes memory
abbrev pub MayTakeMemory : MovePhase → Answer → Type 0
MayTakeMemory phase answer = ⊥

-- Which calls of a mover show a refusal: that the file was another, a swap that was answered so, with what it found; a
-- fault of the store, one that failed. Out of memory no call was made.
abbrev pub Shows : Moving → Refusal → List Event → Type 0
Shows m refusals.Memory own = own ≡ []
Shows m (refusals.ConsumerMoved found) own = own ≡ met m found ∷ []
Shows m (refusals.StoreFault path) own = (path ≡ its_path m) × (own ≡ faulted (swap_call m) ∷ [])
Shows m other own = ⊥

-- its calls so far, by its phase: at its end they show a refusal
abbrev pub Did : Moving → MovePhase → List Event → Type 0
Did m phases.Over own = (refusal : Refusal) × Shows m refusal own
Did m phase own = DidSoFar m phase own

-- Whichever consumer is moved, its call is the next event of its calls so far, or none was made; and a refusal is shown
-- by the calls up to it.
abbrev pub MoverActed : MovePhase → MovePhase → StoreView → StoreView → Result (Unit {0}) Refusal → Type 0
MoverActed old new before after result = (m : Moving)
    → Acts (Did m old) (λ own. Did m new own × IfErr result (λ refusal. Shows m refusal own)) before after
