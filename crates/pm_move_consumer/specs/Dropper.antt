-- A dropper of a consumer: its phases, its call, and what the answer leads to.
use Rattle.std.specs.Prelude.{◌≡◌, ℕ, List, Bool, false, true, Option, None, Some}
use Rattle.pm_values.specs.declared.refusal.Refusal.{Refusal}
use Rattle.pm_store.specs.declared.answer.Answer.{Answer}
use Rattle.pm_store.specs.declared.answer.Answer.TheVariants as answers
use Rattle.pm_store.specs.declared.answer.Removed.{Removed}
use Rattle.pm_store.specs.declared.answer.Removed.TheVariants as removed
use Rattle.pm_store.specs.declared.call.Call.{Call}
use Rattle.pm_store.specs.declared.call.Call.TheVariants as calls
use Rattle.pm_model_folder.specs.Paths.{consumer_path}
use Rattle.pm_move_consumer.specs.declared.drop_phase.DropPhase.{DropPhase}
use Rattle.pm_move_consumer.specs.declared.drop_phase.DropPhase.TheVariants as phases

-- what a phase holds is of the consumer of this name
abbrev pub IsOf : List ℕ → DropPhase → Type 0
IsOf name (phases.Remove path) = path ≡ consumer_path name
IsOf name other = Unit {0}

-- ---- its call

-- its next call, or none at its end
abbrev pub next_call : DropPhase → Option Call
next_call (phases.Remove path) = Some (calls.Remove path)
next_call (phases.Dropped was_there) = None
next_call phases.Over = None

-- how many calls are left, where no refusal comes
abbrev pub calls_left : DropPhase → ℕ
calls_left (phases.Remove path) = 1
calls_left (phases.Dropped was_there) = 0
calls_left phases.Over = 0

-- ---- what the answer leads to

-- the answer to its call, by whether a file was there
abbrev pub told : Bool → Removed
told true = removed.Removed
told false = removed.Absent

-- the phase after an answer: whether a file was there is known
abbrev pub Goes : DropPhase → Answer → DropPhase → Type 0
Goes (phases.Remove path) (answers.Removed answer) later =
    (was_there : Bool) × (answer ≡ told was_there) × (later ≡ phases.Dropped was_there)
Goes phase other later = ⊥

-- no answer shows a refusal
abbrev pub Shown : DropPhase → Answer → Refusal → Type 0
Shown phase answer refusal = ⊥

-- whether a file was there is known
abbrev pub IsDone : DropPhase → Type 0
IsDone (phases.Dropped was_there) = Unit {0}
IsDone other = ⊥
