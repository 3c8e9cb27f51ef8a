-- The own calls of a reader of a consumer's file, and what they show.
use Rattle.std.specs.Prelude.{◌≡◌, ℕ, List, [], ◌∷◌, Option, Some}
use Rattle.pm_values.specs.declared.refusal.Refusal.{Refusal}
use Rattle.pm_values.specs.declared.refusal.Refusal.TheVariants as refusals
use Rattle.pm_store.specs.declared.answer.Answer.{Answer}
use Rattle.pm_store.specs.declared.answer.Answer.TheVariants as answers
use Rattle.pm_machine.specs.Trace.{Event, IsFailed, MayEnd, answered}
use Rattle.pm_model_folder.specs.Paths.{consumer_path}
use Rattle.pm_read_consumer.specs.Reader.{consumer_call, next_call, IsDamaged, Says}
use Rattle.pm_read_consumer.specs.declared.phase.FoundConsumer.{FoundConsumer}
use Rattle.pm_read_consumer.specs.declared.phase.Phase.{Phase}
use Rattle.pm_read_consumer.specs.declared.phase.Phase.TheVariants as phases

-- this was found at the path of the consumer of a name
abbrev pub read_consumer : List ℕ → Option (List ℕ) → Event
read_consumer name found = answered (consumer_call name) (answers.Found found)

-- the consumer's file was read, and says this
abbrev pub HasFound : List ℕ → FoundConsumer → List Event → Type 0
HasFound name r own = Says r.found r.consumer × (own ≡ read_consumer name r.found ∷ [])

-- its calls so far, by its phase before its end, where it reads the file of the consumer of a name
abbrev pub DidSoFar : List ℕ → Phase → List Event → Type 0
DidSoFar name (phases.Read path) own = (path ≡ consumer_path name) × (own ≡ [])
DidSoFar name (phases.Ready r) own = HasFound name r own
DidSoFar name phases.Over own = ⊥

-- what follows the answer takes memory where a file was found
abbrev pub MayTakeMemory : Phase → Answer → Type 0
MayTakeMemory m (answers.Found (Some bytes)) = Unit {0}
MayTakeMemory m answer = ⊥

-- which calls show a refusal: the file is damaged where its bytes are no consumer's
abbrev pub Shows : List ℕ → Refusal → List Event → Type 0
Shows name refusals.Memory own = MayEnd next_call (DidSoFar name) MayTakeMemory own
Shows name (refusals.StoreFault path) own = IsFailed next_call (DidSoFar name) path own
Shows name (refusals.Damaged path place) own =
    (bytes : List ℕ) × (path ≡ consumer_path name) × (place ≡ 0) × IsDamaged bytes
    × (own ≡ read_consumer name (Some bytes) ∷ [])
Shows name other own = ⊥

-- its calls so far, by its phase: at its end they show a refusal
abbrev pub Did : List ℕ → Phase → List Event → Type 0
Did name phases.Over own = (refusal : Refusal) × Shows name refusal own
Did name m own = DidSoFar name m own
