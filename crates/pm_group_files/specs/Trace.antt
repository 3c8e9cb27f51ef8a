-- The own calls of a reader of files, and what they show.
use Rattle.std.specs.Prelude.{◌≡◌, ◌⊎◌, ℕ, List, [], ◌∷◌, ◌++◌, Option, None, Some}
use Rattle.pm_values.specs.declared.refusal.Refusal.{Refusal}
use Rattle.pm_values.specs.declared.refusal.Refusal.TheVariants as refusals
use Rattle.pm_store.specs.declared.answer.Answer.{Answer}
use Rattle.pm_store.specs.declared.answer.Answer.TheVariants as answers
use Rattle.pm_machine.specs.Trace.{Event, IsFailed, MayEnd}
use Rattle.pm_model_folder.specs.Paths.{snapshot_path}
use Rattle.pm_read_table.specs.Trace.{read_file}
use Rattle.pm_group_files.specs.Chosen.{Chosen}
use Rattle.pm_group_files.specs.Collected.{Collected, RefusesJob, Takes, nothing_of, with_groups}
use Rattle.pm_group_files.specs.Jobs.{all_wanted}
use Rattle.pm_group_files.specs.Reader.{next_call}
use Rattle.pm_group_files.specs.declared.job.Job.{Job}
use Rattle.pm_group_files.specs.declared.phase.Phase.{Phase}
use Rattle.pm_group_files.specs.declared.phase.Phase.TheVariants as phases

-- ---- how far the calls have come

-- each of the files was read, in their order, and this is what they made of what was collected
abbrev pub HaveRead : List Job → Collected → Collected → List Event → Type 0
HaveRead [] old new own = (new ≡ old) × (own ≡ [])
HaveRead (job ∷ jobs) old new own = (bytes : List ℕ) × (middle : Collected) × (events : List Event)
    × Takes job bytes old middle × (own ≡ read_file job.path (Some bytes) ∷ events) × HaveRead jobs middle new events

-- the files that are asked for are those that were read and those that are left, and this, with what was handed out, is
-- what the first have
pub record HasPart (a : Chosen) (c : Collected) (rest : List Job) (own : List Event) : Type 0 where
  pub done : List Job
  pub parts : all_wanted a.schema a.groups ≡ done ++ rest
  pub read : HaveRead done (nothing_of a.schema) (with_groups a.given c) own

-- and this was found at the path of the next file
abbrev pub FindsNext : Chosen → Collected → Job → List Job → Option (List ℕ) → List Event → Type 0
FindsNext a c job rest found own = (earlier : List Event) × HasPart a c (job ∷ rest) earlier
    × (own ≡ earlier ++ read_file job.path found ∷ [])

-- a file was found absent at the path
pub record LacksFile (a : Chosen) (id : ℕ) (path : List ℕ) (own : List Event) : Type 0 where
  pub collected : Collected
  pub job : Job
  pub rest : List Job
  pub is_id : id ≡ a.id
  pub is_path : path ≡ job.path
  pub absent : FindsNext a collected job rest None own

-- and then this was found at the path of the snapshot
abbrev pub ReadsAgain : Chosen → ℕ → List ℕ → Option (List ℕ) → List Event → Type 0
ReadsAgain a id path found own =
    (earlier : List Event) × LacksFile a id path earlier × (own ≡ earlier ++ read_file (snapshot_path id) found ∷ [])

-- ---- what they show

-- its calls so far, by its phase before its end, where this was asked
abbrev pub DidSoFar : Chosen → Phase → List Event → Type 0
DidSoFar a (phases.Files r) own = (r.id ≡ a.id) × HasPart a r.collected (r.next ∷ r.rest) own
DidSoFar a (phases.Again id path) own = LacksFile a id path own
DidSoFar a (phases.Ready c) own = HasPart a c [] own
DidSoFar a phases.Over own = ⊥

-- what follows the answer may take memory: where a file was found
abbrev pub MayTakeMemory : Phase → Answer → Type 0
MayTakeMemory (phases.Files r) (answers.Found (Some bytes)) = Unit {0}
MayTakeMemory m answer = ⊥

-- a file that is read was found with bytes that are refused so
abbrev pub Misreads : Chosen → Refusal → List Event → Type 0
Misreads a refusal own = (c : Collected) × (job : Job) × (rest : List Job) × (bytes : List ℕ)
    × RefusesJob c.schema job bytes c.rows refusal × FindsNext a c job rest (Some bytes) own

-- a file is damaged: it was absent though the snapshot stands, or its bytes are refused so
abbrev pub IsDamaged : Chosen → List ℕ → ℕ → List Event → Type 0
IsDamaged a path place own =
    ((place ≡ 0) × (id : ℕ) × (bytes : List ℕ) × ReadsAgain a id path (Some bytes) own)
    ⊎ Misreads a (refusals.Damaged path place) own

-- which calls show a refusal
abbrev pub Shows : Chosen → Refusal → List Event → Type 0
Shows a refusals.Memory own = MayEnd next_call (DidSoFar a) MayTakeMemory own
Shows a (refusals.StoreFault path) own = IsFailed next_call (DidSoFar a) path own
Shows a (refusals.Expired id) own = (path : List ℕ) × ReadsAgain a id path None own
Shows a (refusals.Damaged path place) own = IsDamaged a path place own
Shows a (refusals.Unsupported what text) own = Misreads a (refusals.Unsupported what text) own
Shows a other own = ⊥

-- its calls so far, by its phase, where this was asked: at its end they show a refusal
abbrev pub Did : Chosen → Phase → List Event → Type 0
Did a phases.Over own = (refusal : Refusal) × Shows a refusal own
Did a m own = DidSoFar a m own
