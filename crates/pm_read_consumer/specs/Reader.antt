-- A reader of a consumer's file: its phases, its call, and what the answer leads to.
use Rattle.std.specs.Prelude.{◌≡◌, ◌⊎◌, ℕ, List, Option, None, Some, Ok, Err}
use Rattle.pm_values.specs.declared.refusal.Refusal.{Refusal}
use Rattle.pm_values.specs.declared.refusal.Refusal.TheVariants as refusals
use Rattle.pm_store.specs.declared.answer.Answer.{Answer}
use Rattle.pm_store.specs.declared.answer.Answer.TheVariants as answers
use Rattle.pm_store.specs.declared.call.Call.{Call}
use Rattle.pm_store.specs.declared.call.Call.TheVariants as calls
use Rattle.pm_snapshot.specs.Consumer.{consumer_in}
use Rattle.pm_snapshot.specs.declared.consumer.Consumer.{Consumer}
use Rattle.pm_snapshot.specs.declared.fault.SnapFault.TheVariants as faults
use Rattle.pm_model_folder.specs.Paths.{consumer_path}
use Rattle.pm_read_consumer.specs.declared.phase.FoundConsumer.{FoundConsumer}
use Rattle.pm_read_consumer.specs.declared.phase.Phase.{Phase}
use Rattle.pm_read_consumer.specs.declared.phase.Phase.TheVariants as phases

-- ---- what a consumer's file says

-- the consumer that the file is, or none where no file was found
abbrev pub Says : Option (List ℕ) → Option Consumer → Type 0
Says None None = Unit {0}
Says (Some bytes) (Some c) = consumer_in bytes ≡ Ok c
Says found said = ⊥

-- the bytes are no consumer's
abbrev pub IsDamaged : List ℕ → Type 0
IsDamaged bytes = consumer_in bytes ≡ Err faults.Bad

-- ---- the reader

-- the call that reads the file of the consumer of a name
abbrev pub consumer_call : List ℕ → Call
consumer_call name = calls.Read (consumer_path name)

-- its next call, or none at its end
abbrev pub next_call : Phase → Option Call
next_call (phases.Read path) = Some (calls.Read path)
next_call (phases.Ready r) = None
next_call phases.Over = None

-- what it reads is the file of a consumer
abbrev pub ReadsConsumer : Phase → Type 0
ReadsConsumer (phases.Read path) = (name : List ℕ) × (path ≡ consumer_path name)
ReadsConsumer other = Unit {0}

-- how many calls are left at most
abbrev pub calls_left : Phase → ℕ
calls_left (phases.Read path) = 1
calls_left (phases.Ready r) = 0
calls_left phases.Over = 0

-- what was found is there to be taken
abbrev pub IsReady : Phase → Type 0
IsReady (phases.Ready r) = Unit {0}
IsReady other = ⊥

-- this was found, and says that
abbrev pub found_as : Option (List ℕ) → Option Consumer → FoundConsumer
found_as found said = record { found = found; consumer = said }

-- the phase after an answer: what was found, with what it says
abbrev pub Goes : Phase → Answer → Phase → Type 0
Goes (phases.Read path) (answers.Found found) later =
    (said : Option Consumer) × Says found said × (later ≡ phases.Ready (found_as found said))
Goes phase other later = ⊥

-- the refusal that an answer shows: the bytes are no consumer's; or they take memory
abbrev pub Shown : Phase → Answer → Refusal → Type 0
Shown (phases.Read path) (answers.Found (Some bytes)) refusal =
    (refusal ≡ refusals.Memory) ⊎ ((refusal ≡ refusals.Damaged path 0) × IsDamaged bytes)
Shown phase other refusal = ⊥
