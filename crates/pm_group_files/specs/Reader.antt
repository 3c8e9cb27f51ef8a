-- A reader of files: its phases, its calls, and what each answer leads to.
use Rattle.std.specs.Prelude.{◌≡◌, ◌≢◌, ◌⊎◌, ℕ, ◌+◌, List, [], ◌∷◌, length, Option, None, Some}
use Rattle.pm_values.specs.declared.refusal.Refusal.{Refusal}
use Rattle.pm_values.specs.declared.refusal.Refusal.TheVariants as refusals
use Rattle.pm_store.specs.declared.answer.Answer.{Answer}
use Rattle.pm_store.specs.declared.answer.Answer.TheVariants as answers
use Rattle.pm_store.specs.declared.call.Call.{Call}
use Rattle.pm_store.specs.declared.call.Call.TheVariants as calls
use Rattle.pm_schema.specs.declared.schema.TableSchema.{TableSchema}
use Rattle.pm_scan_rows.specs.Group.{GroupRead}
use Rattle.pm_model_folder.specs.Paths.{snapshot_path}
use Rattle.pm_group_files.specs.Collected.{Collected, RefusesJob, Takes, without_groups}
use Rattle.pm_group_files.specs.Reading.{reading_of}
use Rattle.pm_group_files.specs.declared.job.Job.{Job}
use Rattle.pm_group_files.specs.declared.phase.Phase.{Phase}
use Rattle.pm_group_files.specs.declared.phase.Phase.TheVariants as phases

-- ---- its calls

-- its next call, or none at its end
abbrev pub next_call : Phase → Option Call
next_call (phases.Files r) = Some (calls.Read r.next.path)
next_call (phases.Again id path) = Some (calls.Read (snapshot_path id))
next_call (phases.Ready c) = None
next_call phases.Over = None

-- how many calls are left at most, where no refusal comes
abbrev pub calls_left : Phase → ℕ
calls_left (phases.Files r) = length r.rest + 2
calls_left (phases.Again id path) = 1
calls_left (phases.Ready c) = 0
calls_left phases.Over = 0

-- all files were read
abbrev pub IsReady : Phase → Type 0
IsReady (phases.Ready c) = Unit {0}
IsReady other = ⊥

-- the table of which files were read has this
abbrev pub OfTable : (TableSchema → Type 0) → Phase → Type 0
OfTable Holds (phases.Files r) = Holds r.collected.schema
OfTable Holds (phases.Ready c) = Holds c.schema
OfTable Holds other = Unit {0}

-- ---- what answers lead to

-- with this collected the next of these files is to be read, or all were
abbrev pub read_next : ℕ → Collected → List Job → Phase
read_next id c [] = phases.Ready c
read_next id c (job ∷ jobs) = phases.Files (reading_of id c job jobs)

-- the phase after an answer that it goes on with
abbrev pub Goes : Phase → Answer → Phase → Type 0
Goes (phases.Files r) (answers.Found None) later = later ≡ phases.Again r.id r.next.path
Goes (phases.Files r) (answers.Found (Some bytes)) later =
    (c : Collected) × Takes r.next bytes r.collected c × (later ≡ read_next r.id c r.rest)
Goes phase other later = ⊥

-- The refusal that an answer shows, but for memory, which may run out too where a file is found: the file has none of
-- the rows that it should have; or it is absent, and the snapshot read again is absent, or stands.
abbrev pub Shown : Phase → Answer → Refusal → Type 0
Shown (phases.Files r) (answers.Found (Some bytes)) refusal =
    (refusal ≡ refusals.Memory) ⊎ RefusesJob r.collected.schema r.next bytes r.collected.rows refusal
Shown (phases.Again id path) (answers.Found None) refusal = refusal ≡ refusals.Expired id
Shown (phases.Again id path) (answers.Found (Some bytes)) refusal = refusal ≡ refusals.Damaged path 0
Shown phase other refusal = ⊥

-- ---- groups that are whole

-- a group is whole, and wasn't handed out
abbrev pub HasGroup : Phase → Type 0
HasGroup (phases.Files r) = r.collected.groups ≢ []
HasGroup (phases.Ready c) = c.groups ≢ []
HasGroup other = ⊥

-- these are the groups that are whole, and this is left without them
abbrev pub HandsOut : Phase → List GroupRead → Phase → Type 0
HandsOut (phases.Files r) groups later =
    (groups ≡ r.collected.groups) × (later ≡ phases.Files (reading_of r.id (without_groups r.collected) r.next r.rest))
HandsOut (phases.Ready c) groups later = (groups ≡ c.groups) × (later ≡ phases.Ready (without_groups c))
HandsOut phase groups later = (groups ≡ []) × (later ≡ phase)
