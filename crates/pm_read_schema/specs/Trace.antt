-- The own calls of a reader of a schema, and what they show.
use Rattle.std.specs.Prelude.{◌≡◌, ◌⊎◌, ℕ, List, [], ◌∷◌, ◌++◌, codes, Option, None, Some, IsSome, Ok, Err, Vec}
use Rattle.std.specs.Global.{Global}
use Rattle.pm_values.specs.declared.refusal.Refusal.{Refusal}
use Rattle.pm_values.specs.declared.refusal.Refusal.TheVariants as refusals
use Rattle.pm_store.specs.declared.answer.Answer.TheVariants as answers
use Rattle.pm_store.specs.declared.answer.Answer.{Answer}
use Rattle.pm_machine.specs.Trace.{Event, IsFailed, MayEnd, answered}
use Rattle.pm_schema.specs.Reading.{schema_of}
use Rattle.pm_schema.specs.declared.schema.TableSchema.{TableSchema}
use Rattle.pm_model_folder.specs.Paths.{schema_path}
use Rattle.pm_read_schema.specs.Names.{IsNewest, HasNoSchema, HasSnapshot}
use Rattle.pm_read_schema.specs.Reader.{schemas_call, schema_call, snapshots_call, next_call}
use Rattle.pm_read_schema.specs.declared.phase.Phase.{Phase}
use Rattle.pm_read_schema.specs.declared.phase.Phase.TheVariants as phases

-- the names of a listing
abbrev pub Names : Type 0
Names = Vec (List ℕ) Global

-- the schemas were listed, a schema read, and the snapshots listed
abbrev pub listed_schemas : Names → Event
listed_schemas names = answered schemas_call (answers.Listed names)

abbrev pub read_schema : ℕ → Option (List ℕ) → Event
read_schema id found = answered (schema_call id) (answers.Found found)

abbrev pub listed_snapshots : Names → Event
listed_snapshots names = answered snapshots_call (answers.Listed names)

-- ---- how far the calls have come

-- the schemas were listed, and this is the newest
abbrev pub Lists : ℕ → List Event → Type 0
Lists id own = (names : Names) × IsNewest names.items id × (own ≡ listed_schemas names ∷ [])

-- and this was found at its path
abbrev pub Reads : ℕ → Option (List ℕ) → List Event → Type 0
Reads id found own = (earlier : List Event) × Lists id earlier × (own ≡ earlier ++ read_schema id found ∷ [])

-- which is this schema
abbrev pub Has : TableSchema → List Event → Type 0
Has s own = (id : ℕ) × (bytes : List ℕ) × (schema_of (schema_path id) bytes ≡ Ok s) × Reads id (Some bytes) own

-- it names no origin, and the snapshots have these names
abbrev pub Looks : TableSchema → Names → List Event → Type 0
Looks s names own =
    (earlier : List Event) × Has s earlier × (s.origin ≡ None) × (own ≡ earlier ++ listed_snapshots names ∷ [])

-- ---- what they show

-- the bytes that the read answered have this fault
abbrev pub Misreads : Refusal → List Event → Type 0
Misreads refusal own =
    (id : ℕ) × (bytes : List ℕ) × (schema_of (schema_path id) bytes ≡ Err refusal) × Reads id (Some bytes) own

-- the schema names no origin, and no snapshot stands
abbrev pub LacksOrigin : List Event → Type 0
LacksOrigin own = (s : TableSchema) × (names : Names) × (¬ HasSnapshot names.items) × Looks s names own

-- its calls so far, before its end
abbrev pub DidSoFar : Phase → List Event → Type 0
DidSoFar phases.Schemas own = own ≡ []
DidSoFar (phases.Schema id) own = Lists id own
DidSoFar (phases.Snapshots s) own = Has s own × (s.origin ≡ None)
DidSoFar (phases.Ready s) own =
    (Has s own × IsSome s.origin) ⊎ ((names : Names) × HasSnapshot names.items × Looks s names own)
DidSoFar phases.Over own = ⊥

-- What follows the answer may take memory: not where the schemas were listed, nor where a snapshot stood.
abbrev pub MayTakeMemory : Phase → Answer → Type 0
MayTakeMemory (phases.Schema id) answer = Unit {0}
MayTakeMemory (phases.Snapshots s) (answers.Listed names) = ¬ HasSnapshot names.items
MayTakeMemory m answer = ⊥

-- Which calls show a refusal. There is no table where the names that were listed have no schema. A file is damaged
-- where the newest that they have is absent, or is not a schema's. An origin isn't supported where none is named and
-- the second listing had no snapshot. All else is the very fault of the bytes that were read.
abbrev pub Shows : Refusal → List Event → Type 0
Shows refusals.Memory own = MayEnd next_call DidSoFar MayTakeMemory own
Shows refusals.NoTable own = (names : Names) × HasNoSchema names.items × (own ≡ listed_schemas names ∷ [])
Shows (refusals.StoreFault path) own = IsFailed next_call DidSoFar path own
Shows (refusals.Damaged path place) own =
    ((id : ℕ) × (path ≡ schema_path id) × (place ≡ 0) × Reads id None own) ⊎ Misreads (refusals.Damaged path place) own
Shows (refusals.Unsupported what text) own =
    ((what ≡ codes "origin") × (text ≡ []) × LacksOrigin own) ⊎ Misreads (refusals.Unsupported what text) own
Shows (refusals.Limit which number) own = Misreads (refusals.Limit which number) own
Shows (refusals.SchemaRule rule) own = Misreads (refusals.SchemaRule rule) own
Shows other own = ⊥

-- its calls so far, by its phase: at its end they show a refusal
abbrev pub Did : Phase → List Event → Type 0
Did phases.Over own = (refusal : Refusal) × Shows refusal own
Did m own = DidSoFar m own
