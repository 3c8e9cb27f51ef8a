-- The own calls of a lister of snapshots, and what they show.
use Rattle.std.specs.Prelude.{◌≡◌, ◌⊎◌, ℕ, List, [], ◌∷◌, ◌++◌, map, Option, None, Some, Ok, Err}
use Rattle.std.specs.List.{AllZip}
use Rattle.pm_values.specs.declared.refusal.Refusal.{Refusal}
use Rattle.pm_values.specs.declared.refusal.Refusal.TheVariants as refusals
use Rattle.pm_store.specs.declared.answer.Answer.TheVariants as answers
use Rattle.pm_store.specs.declared.answer.Answer.{Answer}
use Rattle.pm_machine.specs.Trace.{Event, IsFailed, MayEnd, answered}
use Rattle.pm_schema.specs.declared.schema.TableSchema.{TableSchema}
use Rattle.pm_snapshot.specs.Snapshot.{snapshot_in}
use Rattle.pm_snapshot.specs.declared.fault.SnapFault.TheVariants as faults
use Rattle.pm_snapshot.specs.declared.snapshot.Snapshot.{Snapshot}
use Rattle.pm_model_folder.specs.Paths.{snapshot_path}
use Rattle.pm_paths.specs.Ids.{AreIds}
use Rattle.pm_read_schema.specs.Trace as reader
use Rattle.pm_read_schema.specs.Trace.{Names, listed_snapshots}
use Rattle.pm_read_schema.specs.declared.phase.Phase.TheVariants as readers
use Rattle.pm_snapshots.specs.Lines.{line_of}
use Rattle.pm_snapshots.specs.Lister.{next_call, snapshot_call}
use Rattle.pm_snapshots.specs.Reading.{ReadingView, IsReading, next_id}
use Rattle.pm_snapshots.specs.declared.line.SnapshotLine.{SnapshotLine}
use Rattle.pm_snapshots.specs.declared.phase.Phase.{Phase}
use Rattle.pm_snapshots.specs.declared.phase.Phase.TheVariants as phases

-- this was found at the path of a snapshot
abbrev pub read_snapshot : ℕ → Option (List ℕ) → Event
read_snapshot id found = answered (snapshot_call id) (answers.Found found)

-- ---- how far the calls have come

-- the schema was read
abbrev pub Has : TableSchema → List Event → Type 0
Has s own = reader.Did (readers.Ready s) own

-- and the snapshots have these names
abbrev pub Lists : TableSchema → Names → List Event → Type 0
Lists s names own = (earlier : List Event) × Has s earlier × (own ≡ earlier ++ listed_snapshots names ∷ [])

-- the line is that of the snapshot that its read was answered
abbrev pub IsLineOf : SnapshotLine → Event → Type 0
IsLineOf l event =
    (bytes : List ℕ) × (s : Snapshot) × (snapshot_in l.id bytes ≡ Ok s) × (l ≡ line_of s)
    × (event ≡ read_snapshot l.id (Some bytes))

-- the table's snapshots were listed, these are their ids, and these lines are of the first of them
abbrev pub HasRead : ReadingView → List Event → Type 0
HasRead r own =
    (names : Names) × (earlier reads : List Event) × AreIds names.items r.ids × IsReading r
    × Lists r.schema names earlier × AllZip IsLineOf r.lines reads × (own ≡ earlier ++ reads)

-- and this was found at the path of the next
abbrev pub Meets : ReadingView → ℕ → Option (List ℕ) → List Event → Type 0
Meets r id found own =
    (earlier : List Event) × HasRead r earlier × (next_id r ≡ Some id) × (own ≡ earlier ++ read_snapshot id found ∷ [])

-- the snapshots of the table with this schema were listed, and these lines are of all of them, rising, each of what its
-- read was answered
abbrev pub HasListed : TableSchema → List SnapshotLine → List Event → Type 0
HasListed s lines own =
    (names : Names) × (earlier reads : List Event) × AreIds names.items (map (λ l. l.id) lines) × Lists s names earlier
    × AllZip IsLineOf lines reads × (own ≡ earlier ++ reads)

-- ---- what they show

-- its calls so far, before its end
abbrev pub DidSoFar : Phase → List Event → Type 0
DidSoFar (phases.Schema r) own = reader.Did r own
DidSoFar (phases.List s) own = Has s own
DidSoFar (phases.Read r) own = HasRead r own
DidSoFar phases.Over own = ⊥

-- What follows the answer may take memory: but what the reader of the schema makes of it is told by that, and that a
-- snapshot which was listed is absent takes none.
abbrev pub MayTakeMemory : Phase → Answer → Type 0
MayTakeMemory (phases.Schema r) answer = ⊥
MayTakeMemory (phases.Read r) (answers.Found None) = ⊥
MayTakeMemory m answer = Unit {0}

-- Which calls show a refusal, beside those of the reader of the schema. Memory ran out in a step, or where the lines of
-- all snapshots are printed. A snapshot is expired where it was listed and read as absent. A file is damaged where it
-- is that of a listed snapshot whose bytes aren't one's.
abbrev pub ShowsOwn : Refusal → List Event → Type 0
ShowsOwn refusals.Memory own =
    MayEnd next_call DidSoFar MayTakeMemory own
    ⊎ ((s : TableSchema) × (lines : List SnapshotLine) × HasListed s lines own)
ShowsOwn (refusals.StoreFault path) own = IsFailed next_call DidSoFar path own
ShowsOwn (refusals.Expired id) own = (r : ReadingView) × Meets r id None own
ShowsOwn (refusals.Damaged path place) own =
    (r : ReadingView) × (id : ℕ) × (bytes : List ℕ) × (path ≡ snapshot_path id) × (place ≡ 0)
    × (snapshot_in id bytes ≡ Err faults.Bad) × Meets r id (Some bytes) own
ShowsOwn other own = ⊥

-- which calls show a refusal: what the reader of the schema shows is shown
abbrev pub Shows : Refusal → List Event → Type 0
Shows refusal own = reader.Shows refusal own ⊎ ShowsOwn refusal own

-- its calls so far, by its phase: at its end they show a refusal
abbrev pub Did : Phase → List Event → Type 0
Did phases.Over own = (refusal : Refusal) × Shows refusal own
Did m own = DidSoFar m own
