-- A lister of consumers: its phases, its calls, and what each answer leads to.
use Rattle.std.specs.Prelude.{◌≡◌, ◌⊎◌, ℕ, ◌+◌, ◌-◌, ◌≤◌, List, [], length, Option, None, Some, option_map}
use Rattle.pm_values.specs.declared.refusal.Refusal.{Refusal}
use Rattle.pm_values.specs.declared.refusal.Refusal.TheVariants as refusals
use Rattle.pm_store.specs.declared.answer.Answer.{Answer}
use Rattle.pm_store.specs.declared.answer.Answer.TheVariants as answers
use Rattle.pm_store.specs.declared.call.Call.{Call}
use Rattle.pm_store.specs.declared.call.Call.TheVariants as calls
use Rattle.pm_snapshot.specs.declared.consumer.Consumer.{Consumer}
use Rattle.pm_snapshot.specs.declared.fault.SnapFault.{SnapFault}
use Rattle.pm_snapshot.specs.declared.fault.SnapFault.TheVariants as faults
use Rattle.pm_model_folder.specs.Paths.{consumer_folder, consumer_path}
use Rattle.pm_consumer_files.specs.declared.lines.NamedConsumer.{NamedConsumer}
use Rattle.pm_read_consumer.specs.Reader.{consumer_call, IsDamaged, Says}
use Rattle.pm_consumers.specs.Names.{AreNames}
use Rattle.pm_consumers.specs.Reading.{add_read, next_name, reading_of}
use Rattle.pm_consumers.specs.declared.phase.Phase.{Phase}
use Rattle.pm_consumers.specs.declared.phase.Phase.TheVariants as phases

-- ---- its calls

-- the call that lists the consumers
abbrev pub consumers_call : Call
consumers_call = calls.List consumer_folder

-- its next call, or none at its end
abbrev pub next_call : Phase → Option Call
next_call phases.List = Some consumers_call
next_call (phases.Read r) = option_map consumer_call (next_name r)
next_call phases.Over = None

-- so many names a listing has at most
abbrev pub most : ℕ
most = 18446744073709551616

-- how many calls are left at most, where no refusal comes
abbrev pub calls_left : Phase → ℕ
calls_left phases.List = most + 1
calls_left (phases.Read r) = length r.names - r.read
calls_left phases.Over = 0

-- all files were read
abbrev pub IsDone : Phase → Type 0
IsDone (phases.Read r) = next_name r ≡ None
IsDone other = ⊥

-- the consumers whose files were read and were there
abbrev pub consumers_in : Phase → List NamedConsumer
consumers_in (phases.Read r) = r.consumers
consumers_in other = []

-- ---- what answers lead to

-- The phase after an answer that it goes on with: the files of the consumers that were listed are to be read; or the
-- next of them says this, or is passed over where it isn't there.
abbrev pub Goes : Phase → Answer → Phase → Type 0
Goes phases.List (answers.Listed files) later =
    (names : List (List ℕ)) × AreNames files.items names × (length names ≤ most)
    × (later ≡ phases.Read (reading_of names 0 []))
Goes (phases.Read r) (answers.Found found) later =
    (name : List ℕ) × (said : Option Consumer) × (next_name r ≡ Some name) × Says found said
    × (later ≡ phases.Read (add_read r name said))
Goes phase other later = ⊥

-- why the file of a consumer with a fault is refused, whose path may take memory
abbrev pub MayRefuse : List ℕ → SnapFault → Refusal → Type 0
MayRefuse name faults.Memory refusal = refusal ≡ refusals.Memory
MayRefuse name faults.Bad refusal =
    (refusal ≡ refusals.Memory) ⊎ (refusal ≡ refusals.Damaged (consumer_path name) 0)

-- the refusal that an answer shows: memory ran out, or the bytes that were found are no consumer's
abbrev pub Shown : Phase → Answer → Refusal → Type 0
Shown phases.List (answers.Listed files) refusal = refusal ≡ refusals.Memory
Shown (phases.Read r) (answers.Found (Some bytes)) refusal =
    (refusal ≡ refusals.Memory)
    ⊎ ((name : List ℕ) × (next_name r ≡ Some name) × (refusal ≡ refusals.Damaged (consumer_path name) 0)
    × IsDamaged bytes)
Shown phase other refusal = ⊥
