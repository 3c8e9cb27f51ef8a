-- A creator's own calls, and what they show.
use Rattle.std.specs.Prelude.{◌≡◌, ◌⊎◌, ℕ, List, [], ◌∷◌, Option, Result, IfErr}
use Rattle.pm_values.specs.declared.refusal.Refusal.{Refusal}
use Rattle.pm_values.specs.declared.refusal.Refusal.TheVariants as refusals
use Rattle.pm_store.specs.declared.answer.Answer.{Answer}
use Rattle.pm_store.specs.declared.answer.Answer.TheVariants as answers
use Rattle.pm_store.specs.declared.answer.Made.TheVariants as made
use Rattle.pm_store.specs.declared.answer.Swapped.TheVariants as swaps
use Rattle.pm_store.specs.Store.{StoreView}
use Rattle.pm_machine.specs.Trace.{Event, Acts, answered, faulted}
use Rattle.pm_model_folder.specs.Paths.{schema_path}
use Rattle.pm_create.specs.Creator.{IsOf, NewTable, own_origin, origin_call, schema_call}
use Rattle.pm_create.specs.declared.creator.CreateStep.{CreateStep}
use Rattle.pm_create.specs.declared.phase.Phase.{Phase}
use Rattle.pm_create.specs.declared.phase.Phase.TheVariants as phases

-- the origin was made
abbrev pub made_origin : NewTable → Event
made_origin t = answered (origin_call (own_origin t.me)) (answers.Made made.Created)

-- the name of the origin had been used
abbrev pub met_origin : NewTable → Event
met_origin t = answered (origin_call (own_origin t.me)) (answers.Made made.Exists)

-- the table was made
abbrev pub made_table : NewTable → Event
made_table t = answered (schema_call t.bytes) (answers.Swapped swaps.Swapped)

-- the schema's path had this content already
abbrev pub met_table : NewTable → Option (List ℕ) → Event
met_table t found = answered (schema_call t.bytes) (answers.Swapped (swaps.Differs found))

-- the store failed at the origin, and at the schema
abbrev pub failed_origin : NewTable → Event
failed_origin t = faulted (origin_call (own_origin t.me))

abbrev pub failed_table : NewTable → Event
failed_table t = faulted (schema_call t.bytes)

-- its calls so far, before its end
abbrev pub DidSoFar : NewTable → Phase → List Event → Type 0
DidSoFar t (phases.Origin path bytes) own = IsOf t (phases.Origin path bytes) × (own ≡ [])
DidSoFar t (phases.Schema bytes) own = IsOf t (phases.Schema bytes) × (own ≡ made_origin t ∷ [])
DidSoFar t phases.Created own = own ≡ made_origin t ∷ made_table t ∷ []
DidSoFar t phases.Over own = ⊥

-- no answer is followed by what takes memory
abbrev pub MayTakeMemory : Phase → Answer → Type 0
MayTakeMemory m answer = ⊥

-- Which calls of a table's maker show a refusal: that the session was used, a create of its origin that was answered
-- so; that there is a table, a swap of its schema that was; a fault of the store, a call of that path that failed. Out
-- of memory no call was refused or failed, and none made the table. No call followed one that was refused or failed.
abbrev pub Shows : NewTable → Refusal → List Event → Type 0
Shows t refusals.Memory own = (own ≡ []) ⊎ (own ≡ made_origin t ∷ [])
Shows t (refusals.SessionUsed path) own = (path ≡ own_origin t.me) × (own ≡ met_origin t ∷ [])
Shows t refusals.TableExists own = (found : Option (List ℕ)) × (own ≡ made_origin t ∷ met_table t found ∷ [])
Shows t (refusals.StoreFault path) own = ((path ≡ own_origin t.me) × (own ≡ failed_origin t ∷ []))
    ⊎ ((path ≡ schema_path 0) × (own ≡ made_origin t ∷ failed_table t ∷ []))
Shows t other own = ⊥

-- its calls so far, by its phase: at its end they show a refusal
abbrev pub Did : NewTable → Phase → List Event → Type 0
Did t phases.Over own = (refusal : Refusal) × Shows t refusal own
Did t m own = DidSoFar t m own

-- Whichever table is made, its next call is the next event of its calls so far, or none was made; and a refusal is
-- shown by the calls up to it.
abbrev pub CreatorActed : Phase → Phase → StoreView → StoreView → Result CreateStep Refusal → Type 0
CreatorActed old new before after result = (t : NewTable)
    → Acts (Did t old) (λ own. Did t new own × IfErr result (λ refusal. Shows t refusal own)) before after
