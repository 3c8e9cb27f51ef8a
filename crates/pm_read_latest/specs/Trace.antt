-- The own calls of a reader of the latest snapshot's id, and what they show.
use Rattle.std.specs.Prelude.{◌≡◌, ℕ, List, [], ◌∷◌}
use Rattle.pm_values.specs.declared.refusal.Refusal.{Refusal}
use Rattle.pm_values.specs.declared.refusal.Refusal.TheVariants as refusals
use Rattle.pm_store.specs.declared.answer.Answer.{Answer}
use Rattle.pm_machine.specs.Trace.{Event, IsFailed, MayEnd}
use Rattle.pm_paths.specs.Ids.{IsLatest}
use Rattle.pm_read_schema.specs.Trace.{Names, listed_snapshots}
use Rattle.pm_read_latest.specs.Reader.{next_call}
use Rattle.pm_read_latest.specs.declared.phase.Phase.{Phase}
use Rattle.pm_read_latest.specs.declared.phase.Phase.TheVariants as phases

-- the snapshots were listed, and this is the id of the latest of them
abbrev pub HasLatest : ℕ → List Event → Type 0
HasLatest latest own = (names : Names) × IsLatest names.items latest × (own ≡ listed_snapshots names ∷ [])

-- its calls so far, by its phase before its end
abbrev pub DidSoFar : Phase → List Event → Type 0
DidSoFar phases.List own = own ≡ []
DidSoFar (phases.Ready latest) own = HasLatest latest own
DidSoFar phases.Over own = ⊥

-- what follows the answer takes no memory
abbrev pub MayTakeMemory : Phase → Answer → Type 0
MayTakeMemory m answer = ⊥

-- which calls show a refusal
abbrev pub Shows : Refusal → List Event → Type 0
Shows refusals.Memory own = MayEnd next_call DidSoFar MayTakeMemory own
Shows (refusals.StoreFault path) own = IsFailed next_call DidSoFar path own
Shows other own = ⊥

-- its calls so far, by its phase: at its end they show a refusal
abbrev pub Did : Phase → List Event → Type 0
Did phases.Over own = (refusal : Refusal) × Shows refusal own
Did m own = DidSoFar m own
