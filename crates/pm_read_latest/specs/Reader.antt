-- A reader of the latest snapshot's id: its phases, its call, and what the answer leads to.
use Rattle.std.specs.Prelude.{◌≡◌, ℕ, Option, None, Some}
use Rattle.pm_values.specs.declared.refusal.Refusal.{Refusal}
use Rattle.pm_store.specs.declared.answer.Answer.{Answer}
use Rattle.pm_store.specs.declared.answer.Answer.TheVariants as answers
use Rattle.pm_store.specs.declared.call.Call.{Call}
use Rattle.pm_paths.specs.Ids.{IsLatest}
use Rattle.pm_read_schema.specs.Reader.{snapshots_call}
use Rattle.pm_read_latest.specs.declared.phase.Phase.{Phase}
use Rattle.pm_read_latest.specs.declared.phase.Phase.TheVariants as phases

-- its next call, or none at its end
abbrev pub next_call : Phase → Option Call
next_call phases.List = Some snapshots_call
next_call (phases.Ready latest) = None
next_call phases.Over = None

-- how many calls are left at most
abbrev pub calls_left : Phase → ℕ
calls_left phases.List = 1
calls_left (phases.Ready latest) = 0
calls_left phases.Over = 0

-- the id is there to be taken
abbrev pub IsReady : Phase → Type 0
IsReady (phases.Ready latest) = Unit {0}
IsReady other = ⊥

-- the phase after an answer: the id is that of the latest snapshot that was listed
abbrev pub Goes : Phase → Answer → Phase → Type 0
Goes phases.List (answers.Listed names) later =
    (latest : ℕ) × IsLatest names.items latest × (later ≡ phases.Ready latest)
Goes phase other later = ⊥

-- no answer shows a refusal
abbrev pub Shown : Phase → Answer → Refusal → Type 0
Shown phase answer refusal = ⊥
