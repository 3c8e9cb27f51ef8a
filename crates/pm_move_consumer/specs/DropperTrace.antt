-- A dropper's own call, and what it shows.
use Rattle.std.specs.Prelude.{◌≡◌, ℕ, List, [], ◌∷◌, Bool, Result, IfErr}
use Rattle.pm_values.specs.declared.refusal.Refusal.{Refusal}
use Rattle.pm_values.specs.declared.refusal.Refusal.TheVariants as refusals
use Rattle.pm_store.specs.declared.answer.Answer.{Answer}
use Rattle.pm_store.specs.declared.answer.Answer.TheVariants as answers
use Rattle.pm_store.specs.declared.call.Call.{Call}
use Rattle.pm_store.specs.declared.call.Call.TheVariants as calls
use Rattle.pm_store.specs.Store.{StoreView}
use Rattle.pm_machine.specs.Trace.{Acts, Event, answered, faulted}
use Rattle.pm_model_folder.specs.Paths.{consumer_path}
use Rattle.pm_move_consumer.specs.Dropper.{IsOf, told}
use Rattle.pm_move_consumer.specs.declared.drop_phase.DropPhase.{DropPhase}
use Rattle.pm_move_consumer.specs.declared.drop_phase.DropPhase.TheVariants as phases

-- its call takes the consumer's file away
abbrev pub remove_call : List ℕ → Call
remove_call name = calls.Remove (consumer_path name)

-- it was answered, by whether a file was there
abbrev pub dropped : List ℕ → Bool → Event
dropped name was_there = answered (remove_call name) (answers.Removed (told was_there))

-- its calls so far, before its end
abbrev pub DidSoFar : List ℕ → DropPhase → List Event → Type 0
DidSoFar name (phases.Remove path) own = IsOf name (phases.Remove path) × (own ≡ [])
DidSoFar name (phases.Dropped was_there) own = own ≡ dropped name was_there ∷ []
DidSoFar name phases.Over own = ⊥

-- no answer is followed by what takes memory
abbrev pub MayTakeMemory : DropPhase → Answer → Type 0
MayTakeMemory phase answer = ⊥

-- which calls of a dropper show a refusal: a remove that failed; out of memory none was made
abbrev pub Shows : List ℕ → Refusal → List Event → Type 0
Shows name refusals.Memory own = own ≡ []
Shows name (refusals.StoreFault path) own = (path ≡ consumer_path name) × (own ≡ faulted (remove_call name) ∷ [])
Shows name other own = ⊥

-- its calls so far, by its phase: at its end they show a refusal
abbrev pub Did : List ℕ → DropPhase → List Event → Type 0
Did name phases.Over own = (refusal : Refusal) × Shows name refusal own
Did name phase own = DidSoFar name phase own

-- Whichever consumer is dropped, its call is the next event of its calls so far, or none was made; and a refusal is
-- shown by the calls up to it.
abbrev pub DropperActed : DropPhase → DropPhase → StoreView → StoreView → Result (Unit {0}) Refusal → Type 0
DropperActed old new before after result = (name : List ℕ)
    → Acts (Did name old) (λ own. Did name new own × IfErr result (λ refusal. Shows name refusal own)) before after
