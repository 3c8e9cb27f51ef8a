-- A creator: its phases, its calls, and what each answer leads to.
use Rattle.std.specs.Prelude.{◌≡◌, ℕ, ◌+◌, List, [], Option, None, Some, Ok}
use Rattle.pm_values.specs.declared.refusal.Refusal.{Refusal}
use Rattle.pm_values.specs.declared.refusal.Refusal.TheVariants as refusals
use Rattle.pm_store.specs.declared.answer.Answer.{Answer}
use Rattle.pm_store.specs.declared.answer.Answer.TheVariants as answers
use Rattle.pm_store.specs.declared.answer.Made.TheVariants as made
use Rattle.pm_store.specs.declared.answer.Swapped.TheVariants as swaps
use Rattle.pm_store.specs.declared.call.Call.{Call}
use Rattle.pm_store.specs.declared.call.Call.TheVariants as calls
use Rattle.pm_schema.specs.Reading.{schema_of}
use Rattle.pm_schema.specs.Written.{schema_text}
use Rattle.pm_schema.specs.declared.schema.TableSchema.{TableSchema}
use Rattle.pm_model_folder.specs.Changes.{Actor, origin_name}
use Rattle.pm_model_folder.specs.Paths.{schema_path, snapshot_file}
use Rattle.pm_create.specs.declared.phase.Phase.{Phase}
use Rattle.pm_create.specs.declared.phase.Phase.TheVariants as phases
use Rattle.pm_create.specs.declared.creator.CreateStep.{CreateStep}
use Rattle.pm_create.specs.declared.creator.CreateStep.TheVariants as steps

-- ---- what contracts see

abbrev pub actor_of : List ℕ → ℕ → Actor
actor_of session number = record { session = session; number = number }

-- a table that is made: who makes it, its schema, and the bytes of the schema's file
pub record NewTable : Type 0 where
  pub me : Actor
  pub schema : TableSchema
  pub bytes : List ℕ

-- the table with a schema that an actor makes
abbrev pub new_table : Actor → TableSchema → NewTable
new_table me s = record { me = me; schema = s; bytes = schema_text s }

-- the table that is made, and how far its making has come
pub record CreatorView : Type 0 where
  pub table : NewTable
  pub phase : Phase

abbrev pub seen_as : NewTable → Phase → CreatorView
seen_as t phase = record { table = t; phase = phase }

-- the path of the origin that an actor makes
abbrev pub own_origin : Actor → List ℕ
own_origin me = snapshot_file (origin_name me)

-- what a phase holds is the table's: the path of its origin, and the bytes of its schema's file
abbrev pub IsOf : NewTable → Phase → Type 0
IsOf t (phases.Origin path bytes) = (path ≡ own_origin t.me) × (bytes ≡ t.bytes)
IsOf t (phases.Schema bytes) = bytes ≡ t.bytes
IsOf t other = Unit {0}

-- what a table that is made is: its bytes are read as its schema, in the file of schema 0, and the schema's origin is
-- the actor's
pub record IsNewTable (t : NewTable) : Type 0 where
  pub reads : schema_of (schema_path 0) t.bytes ≡ Ok t.schema
  pub origin : t.schema.origin ≡ Some (origin_name t.me)

-- what a creator is
abbrev pub IsCreator : NewTable → Phase → Type 0
IsCreator t p = IsNewTable t × IsOf t p

-- the creator of an actor's table that has made no call yet
abbrev pub new_creator : Actor → TableSchema → CreatorView
new_creator me s = seen_as (new_table me s) (phases.Origin (own_origin me) (schema_text s))

-- ---- its calls

-- the call that makes the origin, an empty file
abbrev pub origin_call : List ℕ → Call
origin_call path = calls.Create path []

-- the call that makes the schema's file, where there is none
abbrev pub schema_call : List ℕ → Call
schema_call bytes = calls.Swap (schema_path 0) None bytes

-- its next call, or none at its end
abbrev pub next_call : Phase → Option Call
next_call (phases.Origin path bytes) = Some (origin_call path)
next_call (phases.Schema bytes) = Some (schema_call bytes)
next_call phases.Created = None
next_call phases.Over = None

-- how many calls are left, where no refusal comes
abbrev pub calls_left : Phase → ℕ
calls_left (phases.Origin path bytes) = 2
calls_left (phases.Schema bytes) = 1
calls_left phases.Created = 0
calls_left phases.Over = 0

-- ---- what answers lead to

-- the phase after an answer that it goes on with
abbrev pub Goes : Phase → Answer → Phase → Type 0
Goes (phases.Origin path bytes) (answers.Made made.Created) later = later ≡ phases.Schema bytes
Goes (phases.Schema bytes) (answers.Swapped swaps.Swapped) later = later ≡ phases.Created
Goes phase other later = ⊥

-- the refusal that an answer shows: the name of the origin was used before, or there is a table already
abbrev pub Shown : Phase → Answer → Refusal → Type 0
Shown (phases.Origin path bytes) (answers.Made made.Exists) refusal = refusal ≡ refusals.SessionUsed path
Shown (phases.Schema bytes) (answers.Swapped (swaps.Differs found)) refusal = refusal ≡ refusals.TableExists
Shown phase other refusal = ⊥

-- what a step that goes on has reached
abbrev pub Reaches : CreateStep → Phase → Type 0
Reaches steps.More new = (bytes : List ℕ) × (new ≡ phases.Schema bytes)
Reaches steps.Created new = new ≡ phases.Created

-- Private: the answer of a step that went on, by the phase that it reached
abbrev pub reached_at : Phase → CreateStep
reached_at phases.Created = steps.Created
reached_at other = steps.More

-- one call was made, and what the phase holds is still the table's, whatever that is
pub record GoesOnce (old new : Phase) : Type 0 where
  pub fewer : calls_left new + 1 ≡ calls_left old
  pub holds : (t : NewTable) → IsOf t old → IsOf t new
