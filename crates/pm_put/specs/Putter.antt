-- A putter: its phases, its calls, and what each answer leads to.
use Rattle.std.specs.Prelude.{◌≡◌, ℕ, ◌+◌, ◌<◌, List, [], ◌∷◌, length, Option, None, Some}
use Rattle.pm_values.specs.declared.refusal.Refusal.{Refusal}
use Rattle.pm_values.specs.declared.refusal.Refusal.TheVariants as refusals
use Rattle.pm_store.specs.declared.answer.Answer.{Answer}
use Rattle.pm_store.specs.declared.answer.Answer.TheVariants as answers
use Rattle.pm_store.specs.declared.answer.Made.TheVariants as makes
use Rattle.pm_store.specs.declared.answer.Published.{Published}
use Rattle.pm_store.specs.declared.answer.Published.TheVariants as published
use Rattle.pm_store.specs.declared.call.Call.{Call}
use Rattle.pm_store.specs.declared.call.Call.TheVariants as calls
use Rattle.pm_put.specs.Making.{making_of}
use Rattle.pm_put.specs.declared.putting.CommitFile.{CommitFile}
use Rattle.pm_put.specs.declared.putting.Publishing.{Publishing}
use Rattle.pm_put.specs.declared.putter.PutStep.{PutStep}
use Rattle.pm_put.specs.declared.putter.PutStep.TheVariants as steps
use Rattle.pm_put.specs.declared.phase.Phase.{Phase}
use Rattle.pm_put.specs.declared.phase.Phase.TheVariants as phases

-- ---- its calls

abbrev pub create_call : CommitFile → Call
create_call file = calls.Create file.path file.bytes

abbrev pub publish_call : Publishing → Call
publish_call x = calls.Publish x.after x.path x.bytes

-- its next call, or none at its end
abbrev pub next_call : Phase → Option Call
next_call (phases.Create making) = Some (create_call making.next)
next_call (phases.Publish x) = Some (publish_call x)
next_call phases.Published = None
next_call phases.Lost = None
next_call phases.Over = None

-- how many calls are left, where no refusal comes: one for each file, and the publish
abbrev pub calls_left : Phase → ℕ
calls_left (phases.Create making) = length making.rest + 2
calls_left (phases.Publish x) = 1
calls_left phases.Published = 0
calls_left phases.Lost = 0
calls_left phases.Over = 0

-- ---- what answers lead to

-- the next of these files is to be created, or all were
abbrev pub create_next : Publishing → List CommitFile → Phase
create_next x [] = phases.Publish x
create_next x (file ∷ files) = phases.Create (making_of x file files)

-- the publish took effect, or was lost to others: the path was there, or what it was to come after had gone
abbrev pub after_publish : Published → Phase
after_publish published.Created = phases.Published
after_publish published.Exists = phases.Lost
after_publish published.AfterGone = phases.Lost

-- the phase after an answer that it goes on with
abbrev pub Goes : Phase → Answer → Phase → Type 0
Goes (phases.Create making) (answers.Made makes.Created) later = later ≡ create_next making.publishing making.rest
Goes (phases.Publish x) (answers.Published answer) later = later ≡ after_publish answer
Goes phase other later = ⊥

-- the refusal that an answer shows: a create met a file
abbrev pub Shown : Phase → Answer → Refusal → Type 0
Shown (phases.Create making) (answers.Made makes.Exists) refusal = refusal ≡ refusals.SessionUsed making.next.path
Shown phase other refusal = ⊥

-- what a step that goes on has reached
abbrev pub Reaches : PutStep → Phase → Type 0
Reaches steps.More phase = 0 < calls_left phase
Reaches steps.Published phase = phase ≡ phases.Published
Reaches steps.Lost phase = phase ≡ phases.Lost

abbrev pub reached_at : Phase → PutStep
reached_at phases.Published = steps.Published
reached_at phases.Lost = steps.Lost
reached_at other = steps.More

-- one call was made
abbrev pub IsOneFewer : Phase → Phase → Type 0
IsOneFewer old new = calls_left new + 1 ≡ calls_left old
