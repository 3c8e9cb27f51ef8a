-- A remover: its phases, its calls, and what each answer leads to.
use Rattle.std.specs.Prelude.{◌≡◌, ℕ, ◌+◌, List, [], ◌∷◌, length, Option, None, Some}
use Rattle.pm_values.specs.declared.refusal.Refusal.{Refusal}
use Rattle.pm_store.specs.declared.answer.Answer.{Answer}
use Rattle.pm_store.specs.declared.answer.Answer.TheVariants as answers
use Rattle.pm_store.specs.declared.call.Call.{Call}
use Rattle.pm_store.specs.declared.call.Call.TheVariants as calls
use Rattle.pm_remove.specs.Removal.{removal_of}
use Rattle.pm_remove.specs.declared.phase.Phase.{Phase}
use Rattle.pm_remove.specs.declared.phase.Phase.TheVariants as phases

-- ---- its calls

abbrev pub remove_call : List ℕ → Call
remove_call path = calls.Remove path

-- its next call, or none at its end
abbrev pub next_call : Phase → Option Call
next_call (phases.Remove r) = Some (remove_call r.next)
next_call phases.Removed = None
next_call phases.Over = None

-- how many calls are left, where no refusal comes: one for each path
abbrev pub calls_left : Phase → ℕ
calls_left (phases.Remove r) = length r.rest + 1
calls_left phases.Removed = 0
calls_left phases.Over = 0

-- ---- what answers lead to

-- the next of these paths is to be removed, or all were
abbrev pub remove_next : List (List ℕ) → Phase
remove_next [] = phases.Removed
remove_next (path ∷ paths) = phases.Remove (removal_of path paths)

-- the phase after an answer: whether the path was there or absent, the next one follows
abbrev pub Goes : Phase → Answer → Phase → Type 0
Goes (phases.Remove r) (answers.Removed answer) later = later ≡ remove_next r.rest
Goes phase other later = ⊥

-- the refusal that an answer shows: none does
abbrev pub Shown : Phase → Answer → Refusal → Type 0
Shown phase answer refusal = ⊥

-- one call was made
abbrev pub IsOneFewer : Phase → Phase → Type 0
IsOneFewer old new = calls_left new + 1 ≡ calls_left old
