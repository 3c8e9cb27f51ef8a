-- The own calls of a remover, and what they show.
use Rattle.std.specs.Prelude.{◌≡◌, ℕ, List}
use Rattle.std.specs.List.{AllZip}
use Rattle.pm_values.specs.declared.refusal.Refusal.{Refusal}
use Rattle.pm_values.specs.declared.refusal.Refusal.TheVariants as refusals
use Rattle.pm_store.specs.declared.answer.Answer.{Answer}
use Rattle.pm_store.specs.declared.answer.Answer.TheVariants as answers
use Rattle.pm_store.specs.declared.answer.Removed.{Removed}
use Rattle.pm_machine.specs.Trace.{Event, IsFailed, MayEnd, answered}
use Rattle.pm_remove.specs.Meaning.{IsAt}
use Rattle.pm_remove.specs.Remover.{next_call, remove_call}
use Rattle.pm_remove.specs.declared.phase.Phase.{Phase}
use Rattle.pm_remove.specs.declared.phase.Phase.TheVariants as phases

-- ---- its events

abbrev pub removes : List ℕ → Removed → Event
removes path answer = answered (remove_call path) (answers.Removed answer)

-- the path was removed, or was absent
abbrev pub IsRemoval : List ℕ → Event → Type 0
IsRemoval path event = (answer : Removed) × (event ≡ removes path answer)

-- these paths were removed, each once and in their order, and no other call was made
abbrev pub HasRemoved : List Event → List (List ℕ) → Type 0
HasRemoved own paths = AllZip IsRemoval paths own

-- ---- what they show

-- its calls so far, before its end
abbrev pub DidSoFar : List (List ℕ) → Phase → List Event → Type 0
DidSoFar paths phases.Over own = ⊥
DidSoFar paths m own = IsAt paths (HasRemoved own) m

-- no answer is followed by what takes memory
abbrev pub MayTakeMemory : Phase → Answer → Type 0
MayTakeMemory m answer = ⊥

-- which calls show a refusal: one that failed, or that wasn't made as memory ran out before it
abbrev pub Shows : List (List ℕ) → Refusal → List Event → Type 0
Shows paths refusals.Memory own = MayEnd next_call (DidSoFar paths) MayTakeMemory own
Shows paths (refusals.StoreFault path) own = IsFailed next_call (DidSoFar paths) path own
Shows paths other own = ⊥

-- its calls so far, by its phase: at its end they show a refusal
abbrev pub Did : List (List ℕ) → Phase → List Event → Type 0
Did paths phases.Over own = (refusal : Refusal) × Shows paths refusal own
Did paths m own = DidSoFar paths m own
