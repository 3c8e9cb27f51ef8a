-- The own calls of a reader of a frame, and what they show.
use Rattle.std.specs.Prelude.{◌≡◌, ◌⊎◌, ℕ, List, [], ◌∷◌, ◌++◌, Option, None, Some}
use Rattle.pm_values.specs.declared.record.Stamped.{Stamped}
use Rattle.pm_values.specs.declared.refusal.Refusal.{Refusal}
use Rattle.pm_values.specs.declared.refusal.Refusal.TheVariants as refusals
use Rattle.pm_store.specs.declared.answer.Answer.{Answer}
use Rattle.pm_store.specs.declared.answer.Answer.TheVariants as answers
use Rattle.pm_machine.specs.Trace.{Event, IsFailed, MayEnd}
use Rattle.pm_schema.specs.declared.schema.TableSchema.{TableSchema}
use Rattle.pm_model_folder.specs.Paths.{snapshot_path}
use Rattle.pm_merged_log.specs.Merged.{merged_frame}
use Rattle.pm_read_table.specs.Trace.{read_file}
use Rattle.pm_read_log.specs.Log.{LogAskedView}
use Rattle.pm_read_log.specs.LogReader as log_machine
use Rattle.pm_read_log.specs.LogTrace as log
use Rattle.pm_read_log.specs.LogTrace.{HasLog}
use Rattle.pm_read_log.specs.declared.log.Log.{Log}
use Rattle.pm_read_log.specs.declared.log_phase.LogPhase.TheVariants as logs
use Rattle.pm_read_frame.specs.Reader.{next_call}
use Rattle.pm_read_frame.specs.Taken.{RefusesFile, Takes, files_of}
use Rattle.pm_read_frame.specs.declared.file.ChangesFile.{ChangesFile}
use Rattle.pm_read_frame.specs.declared.phase.Phase.{Phase}
use Rattle.pm_read_frame.specs.declared.phase.Phase.TheVariants as phases

-- ---- how far the calls have come

-- each of the files was read, in their order, and this is what their rows made of others
abbrev pub HaveRead : TableSchema → List ChangesFile → List Stamped → List Stamped → List Event → Type 0
HaveRead s [] old new own = (new ≡ old) × (own ≡ [])
HaveRead s (file ∷ files) old new own = (bytes : List ℕ) × (middle : List Stamped) × (events : List Event)
    × Takes s file bytes old middle × (own ≡ read_file file.path (Some bytes) ∷ events)
    × HaveRead s files middle new events

-- The changelog was read, whose files are those that were read and those that are left, and these rows are those of the
-- first.
pub record HasPart (a : LogAskedView) (l : Log) (rows : List Stamped) (rest : List ChangesFile) (own : List Event)
    : Type 0 where
  pub first : List Event
  pub logged : HasLog a l first
  pub done : List ChangesFile
  pub parts : files_of l.schema l.changes.items ≡ done ++ rest
  pub reads : List Event
  pub read : HaveRead l.schema done [] rows reads
  pub is : own ≡ first ++ reads

-- all files were read, and this is the frame that their rows make, merged by key
abbrev pub HasFrame : LogAskedView → List ℕ → List Event → Type 0
HasFrame a text own =
    (l : Log) × (rows : List Stamped) × HasPart a l rows [] own × (text ≡ merged_frame l.schema a.id rows)

-- this was found at the path of the next file
abbrev pub FindsNext : LogAskedView → Log → List Stamped → ChangesFile → List ChangesFile → Option (List ℕ)
    → List Event → Type 0
FindsNext a l rows file rest found own =
    (earlier : List Event) × HasPart a l rows (file ∷ rest) earlier × (own ≡ earlier ++ read_file file.path found ∷ [])

-- a file was found absent at the path
pub record LacksFile (a : LogAskedView) (path : List ℕ) (own : List Event) : Type 0 where
  pub log : Log
  pub rows : List Stamped
  pub file : ChangesFile
  pub rest : List ChangesFile
  pub is_path : path ≡ file.path
  pub absent : FindsNext a log rows file rest None own

-- and then this was found at the path of the snapshot
abbrev pub ReadsAgain : LogAskedView → List ℕ → Option (List ℕ) → List Event → Type 0
ReadsAgain a path found own =
    (earlier : List Event) × LacksFile a path earlier × (own ≡ earlier ++ read_file (snapshot_path a.id) found ∷ [])

-- ---- what they show

-- its calls so far, by its phase before its end, where this was asked
abbrev pub DidSoFar : LogAskedView → Phase → List Event → Type 0
DidSoFar a (phases.Log m) own = log.Did a m own
DidSoFar a (phases.Files r) own =
    (l : Log) × (r.schema ≡ l.schema) × (r.id ≡ a.id) × HasPart a l r.rows (r.next ∷ r.rest) own
DidSoFar a (phases.Again id path) own = (id ≡ a.id) × LacksFile a path own
DidSoFar a (phases.Ready id text) own = (id ≡ a.id) × HasFrame a text.items own
DidSoFar a phases.Over own = ⊥

-- what follows the answer may take memory: where the changelog is ready by it, or a file was found
abbrev pub MayTakeMemory : Phase → Answer → Type 0
MayTakeMemory (phases.Log m) answer = (l : Log) × log_machine.Goes m answer (logs.Ready l)
MayTakeMemory (phases.Files r) (answers.Found (Some bytes)) = Unit {0}
MayTakeMemory m answer = ⊥

-- a file was found with bytes that are refused so
abbrev pub Misreads : LogAskedView → Refusal → List Event → Type 0
Misreads a refusal own = (l : Log) × (rows : List Stamped) × (file : ChangesFile) × (rest : List ChangesFile)
    × (bytes : List ℕ) × RefusesFile l.schema file bytes refusal × FindsNext a l rows file rest (Some bytes) own

-- a file is damaged: it was absent though the snapshot stands, or its bytes are refused so
abbrev pub IsDamaged : LogAskedView → List ℕ → ℕ → List Event → Type 0
IsDamaged a path place own =
    ((place ≡ 0) × (bytes : List ℕ) × ReadsAgain a path (Some bytes) own)
    ⊎ Misreads a (refusals.Damaged path place) own

-- which calls show a refusal, beside those of the changelog's reader
abbrev pub ShowsOfFiles : LogAskedView → Refusal → List Event → Type 0
ShowsOfFiles a refusals.Memory own = MayEnd next_call (DidSoFar a) MayTakeMemory own
ShowsOfFiles a (refusals.StoreFault path) own = IsFailed next_call (DidSoFar a) path own
ShowsOfFiles a (refusals.Expired id) own = (id ≡ a.id) × (path : List ℕ) × ReadsAgain a path None own
ShowsOfFiles a (refusals.Damaged path place) own = IsDamaged a path place own
ShowsOfFiles a (refusals.Unsupported what text) own = Misreads a (refusals.Unsupported what text) own
ShowsOfFiles a other own = ⊥

-- which calls show a refusal: what the reader of the changelog shows is shown
abbrev pub Shows : LogAskedView → Refusal → List Event → Type 0
Shows a refusal own = log.Shows a refusal own ⊎ ShowsOfFiles a refusal own

-- its calls so far, by its phase, where this was asked: at its end they show a refusal
abbrev pub Did : LogAskedView → Phase → List Event → Type 0
Did a phases.Over own = (refusal : Refusal) × Shows a refusal own
Did a m own = DidSoFar a m own
