-- A reader of a frame: its phases, its calls, and what each answer leads to.
use Rattle.std.specs.Prelude.{◌≡◌, ◌⊎◌, ℕ, ◌+◌, ◌<◌, ◌≤◌, List, [], ◌∷◌, length, Option, None, Some, Vec}
use Rattle.std.specs.Global.{Global}
use Rattle.pm_values.specs.declared.record.Stamped.{Stamped}
use Rattle.pm_values.specs.declared.refusal.Refusal.{Refusal}
use Rattle.pm_values.specs.declared.refusal.Refusal.TheVariants as refusals
use Rattle.pm_store.specs.declared.answer.Answer.{Answer}
use Rattle.pm_store.specs.declared.answer.Answer.TheVariants as answers
use Rattle.pm_store.specs.declared.call.Call.{Call}
use Rattle.pm_store.specs.declared.call.Call.TheVariants as calls
use Rattle.pm_schema.specs.declared.schema.TableSchema.{TableSchema}
use Rattle.pm_model_folder.specs.Paths.{snapshot_path}
use Rattle.pm_merged_log.specs.Merged.{merged_frame}
use Rattle.pm_read_table.specs.Reader.{most}
use Rattle.pm_read_log.specs.LogReader as log
use Rattle.pm_read_log.specs.declared.log.Log.{Log}
use Rattle.pm_read_log.specs.declared.log_phase.LogPhase.{LogPhase}
use Rattle.pm_read_log.specs.declared.log_phase.LogPhase.TheVariants as logs
use Rattle.pm_read_frame.specs.Reading.{reading_of}
use Rattle.pm_read_frame.specs.Taken.{RefusesFile, Takes, files_of}
use Rattle.pm_read_frame.specs.declared.file.ChangesFile.{ChangesFile}
use Rattle.pm_read_frame.specs.declared.phase.Phase.{Phase}
use Rattle.pm_read_frame.specs.declared.phase.Phase.TheVariants as phases

-- ---- its calls

-- its next call, or none at its end
abbrev pub next_call : Phase → Option Call
next_call (phases.Log m) = log.next_call m
next_call (phases.Files r) = Some (calls.Read r.next.path)
next_call (phases.Again id path) = Some (calls.Read (snapshot_path id))
next_call (phases.Ready id text) = None
next_call phases.Over = None

-- how many calls are left at most, where no refusal comes
abbrev pub calls_left : Phase → ℕ
calls_left (phases.Log m) = log.calls_left m + (most + 2)
calls_left (phases.Files r) = length r.rest + 2
calls_left (phases.Again id path) = 1
calls_left (phases.Ready id text) = 0
calls_left phases.Over = 0

-- a reader of a frame: the reader of its changelog has a call left
abbrev pub IsReader : Phase → Type 0
IsReader (phases.Log m) = 0 < log.calls_left m
IsReader other = Unit {0}

-- the text is there to be taken
abbrev pub IsReady : Phase → Type 0
IsReady (phases.Ready id text) = Unit {0}
IsReady other = ⊥

-- ---- what answers lead to

-- with these rows the next of these files is to be read, or the frame is ready, of all rows merged by key
abbrev pub ReadsOn : TableSchema → ℕ → List Stamped → List ChangesFile → Phase → Type 0
ReadsOn s id rows [] later =
    (whole : Vec ℕ Global) × (whole.items ≡ merged_frame s id rows) × (later ≡ phases.Ready id whole)
ReadsOn s id rows (file ∷ files) later = later ≡ phases.Files (reading_of s id rows file files)

-- once the changelog is ready, its files are to be read
abbrev pub Starts : Log → Phase → Type 0
Starts l later =
    (length (files_of l.schema l.changes.items) ≤ most)
    × ReadsOn l.schema l.snapshot.id [] (files_of l.schema l.changes.items) later

-- with this reader of the changelog
abbrev pub AfterLog : LogPhase → Phase → Type 0
AfterLog (logs.Ready l) later = Starts l later
AfterLog m later = later ≡ phases.Log m

-- the phase after an answer that it goes on with
abbrev pub Goes : Phase → Answer → Phase → Type 0
Goes (phases.Log m) answer later = (new : LogPhase) × log.Goes m answer new × AfterLog new later
Goes (phases.Files r) (answers.Found None) later = later ≡ phases.Again r.id r.next.path
Goes (phases.Files r) (answers.Found (Some bytes)) later =
    (rows : List Stamped) × Takes r.schema r.next bytes r.rows rows × ReadsOn r.schema r.id rows r.rest later
Goes phase other later = ⊥

-- memory ran out once the changelog was ready
abbrev pub FailsToStart : LogPhase → Answer → Refusal → Type 0
FailsToStart m answer refusal = (refusal ≡ refusals.Memory) × (l : Log) × log.Goes m answer (logs.Ready l)

-- The refusal that an answer shows: one of the changelog's reader; a file has none of the rows that it should have; or
-- it is absent, and the snapshot read again is absent, or stands. Memory may run out too once the changelog is ready,
-- and where a file is found.
abbrev pub Shown : Phase → Answer → Refusal → Type 0
Shown (phases.Log m) answer refusal = FailsToStart m answer refusal ⊎ log.Shown m answer refusal
Shown (phases.Files r) (answers.Found (Some bytes)) refusal =
    (refusal ≡ refusals.Memory) ⊎ RefusesFile r.schema r.next bytes refusal
Shown (phases.Again id path) (answers.Found None) refusal = refusal ≡ refusals.Expired id
Shown (phases.Again id path) (answers.Found (Some bytes)) refusal = refusal ≡ refusals.Damaged path 0
Shown phase other refusal = ⊥
