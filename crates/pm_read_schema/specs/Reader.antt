-- A reader of a table's schema: its phases, its calls, and what each answer leads to.
use Rattle.std.specs.Prelude.{◌≡◌, ◌⊎◌, ℕ, List, [], codes, Option, None, Some, Ok, Err}
use Rattle.pm_values.specs.declared.refusal.Refusal.{Refusal}
use Rattle.pm_values.specs.declared.refusal.Refusal.TheVariants as refusals
use Rattle.pm_store.specs.declared.answer.Answer.{Answer}
use Rattle.pm_store.specs.declared.answer.Answer.TheVariants as answers
use Rattle.pm_store.specs.declared.call.Call.{Call}
use Rattle.pm_store.specs.declared.call.Call.TheVariants as calls
use Rattle.pm_schema.specs.Again.{IsDeclared}
use Rattle.pm_schema.specs.Reading.{schema_of}
use Rattle.pm_schema.specs.declared.schema.TableSchema.{TableSchema}
use Rattle.pm_model_folder.specs.Paths.{schema_folder, schema_path, snapshot_folder}
use Rattle.pm_read_schema.specs.Names.{IsNewest, HasNoSchema, HasSnapshot}
use Rattle.pm_read_schema.specs.declared.phase.Phase.{Phase}
use Rattle.pm_read_schema.specs.declared.phase.Phase.TheVariants as phases

-- ---- its calls

-- the calls that list the folders of schemas and of snapshots, and the one that reads a schema
abbrev pub schemas_call : Call
schemas_call = calls.List schema_folder

abbrev pub schema_call : ℕ → Call
schema_call id = calls.Read (schema_path id)

abbrev pub snapshots_call : Call
snapshots_call = calls.List snapshot_folder

-- its next call, or none at its end
abbrev pub next_call : Phase → Option Call
next_call phases.Schemas = Some schemas_call
next_call (phases.Schema id) = Some (schema_call id)
next_call (phases.Snapshots s) = Some snapshots_call
next_call (phases.Ready s) = None
next_call phases.Over = None

-- how many calls are left at most, where no refusal comes
abbrev pub calls_left : Phase → ℕ
calls_left phases.Schemas = 3
calls_left (phases.Schema id) = 2
calls_left (phases.Snapshots s) = 1
calls_left (phases.Ready s) = 0
calls_left phases.Over = 0

-- the schema is there to be taken
abbrev pub IsReady : Phase → Type 0
IsReady (phases.Ready s) = Unit {0}
IsReady other = ⊥

-- a schema that was read is one that a file declares
abbrev pub HasDeclared : Phase → Type 0
HasDeclared (phases.Snapshots s) = IsDeclared s
HasDeclared (phases.Ready s) = IsDeclared s
HasDeclared other = Unit {0}

-- ---- what answers lead to

-- the phase once this schema was read: it is ready where it names an origin
abbrev pub with_origin : Option (List ℕ) → TableSchema → Phase
with_origin (Some origin) s = phases.Ready s
with_origin None s = phases.Snapshots s

-- the phase after an answer that it goes on with
abbrev pub Goes : Phase → Answer → Phase → Type 0
Goes phases.Schemas (answers.Listed names) later =
    (id : ℕ) × IsNewest names.items id × (later ≡ phases.Schema id)
Goes (phases.Schema id) (answers.Found (Some bytes)) later =
    (s : TableSchema) × (schema_of (schema_path id) bytes ≡ Ok s) × (later ≡ with_origin s.origin s)
Goes (phases.Snapshots s) (answers.Listed names) later = HasSnapshot names.items × (later ≡ phases.Ready s)
Goes phase other later = ⊥

-- The refusal that an answer shows: there is no table; the schema that was listed is absent, or has this fault; the
-- schema names no origin, and no snapshot is there. To say so may take memory, apart from the first.
abbrev pub Shown : Phase → Answer → Refusal → Type 0
Shown phases.Schemas (answers.Listed names) refusal = (refusal ≡ refusals.NoTable) × HasNoSchema names.items
Shown (phases.Schema id) (answers.Found None) refusal =
    (refusal ≡ refusals.Memory) ⊎ (refusal ≡ refusals.Damaged (schema_path id) 0)
Shown (phases.Schema id) (answers.Found (Some bytes)) refusal =
    (refusal ≡ refusals.Memory) ⊎ (schema_of (schema_path id) bytes ≡ Err refusal)
Shown (phases.Snapshots s) (answers.Listed names) refusal =
    ((refusal ≡ refusals.Memory) ⊎ (refusal ≡ refusals.Unsupported (codes "origin") [])) × (¬ HasSnapshot names.items)
Shown phase other refusal = ⊥
