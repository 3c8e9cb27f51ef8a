-- The faults that the bytes of a data file may have.
use Rattle.std.proofs.Common.{◌≡◌, ◌⊎◌, Bool, true, false, ℕ, List, refl, Option, None, Some, inl, inr, subst, sym}
use Rattle.pm_values.specs.Order.{Values}
use Rattle.pm_values.specs.declared.refusal.Refusal.{Refusal}
use Rattle.pm_values.specs.declared.refusal.Refusal.TheVariants as refusals
use Rattle.pm_schema.specs.declared.schema.TableSchema.{TableSchema}
use Rattle.pm_avro_data.specs.Datum.{Data}
use Rattle.pm_engine.specs.Covers.{Run}
use Rattle.pm_run.specs.Order.{last_key}
use Rattle.pm_run.specs.Reader.{RefusesRun}
use Rattle.pm_run.specs.Rows.{Opened, judged}
use Rattle.pm_run.proofs.FaultLemmas as rows
use Rattle.pm_run.proofs.FaultLemmas.{OfFaults}
use Rattle.pm_read_table.proofs.FaultLemmas.{IsFileFault}
use Rattle.pm_store.specs.declared.answer.Answer.{Answer}
use Rattle.pm_store.specs.declared.answer.Answer.TheVariants as answers
use Rattle.pm_group_files.specs.Collected.{RefusesFile, RefusesJob, RefusesWhere, misread, unopened}
use Rattle.pm_group_files.specs.Reader.{Shown}
use Rattle.pm_group_files.specs.Trace.{MayTakeMemory}
use Rattle.pm_group_files.specs.declared.job.Job.{Job}
use Rattle.pm_group_files.specs.declared.phase.Phase.{Phase}
use Rattle.pm_group_files.specs.declared.phase.Phase.TheVariants as phases

-- a fault of a file is one of these
of_files : OfFaults IsFileFault
of_files = record { memory = tt; damaged = λ path place. tt; unsupported = λ what text. tt }

pub opened_fault : (s : TableSchema) (id : ℕ) (path bytes : List ℕ) (e : Refusal) → RefusesRun s id path bytes e → IsFileFault e
opened_fault = rows.opened_fault IsFileFault of_files

pub judged_fault : (o : Opened) (before : Option Values) (ps : List (ℕ × Data)) (e : Refusal) → (judged o before ps).refusal ≡ Some e → IsFileFault e
judged_fault = rows.judged_fault IsFileFault of_files

file_fault : (s : TableSchema) (job : Job) (bytes : List ℕ) (before : Run) (e : Refusal) → RefusesFile s job bytes before e → IsFileFault e
file_fault s job bytes before e (unopened refuses) = opened_fault s job.schema_id job.path bytes e refuses
file_fault s job bytes before e (misread v more opens follow) =
    rows.follow_fault IsFileFault of_files v.opened v.opened.file.first (last_key None before) more e follow

pub refuses_fault : (s : TableSchema) (job : Job) (bytes : List ℕ) (before : Run) (e : Refusal) → RefusesJob s job bytes before e → IsFileFault e
refuses_fault s job bytes before e refuses = by job.kept refuses
  where
    by : (kept : Bool) → RefusesWhere kept s job bytes before e → IsFileFault e
    by false refused = file_fault s job bytes before e refused
    by true refused = absurd refused

-- ---- which refusals are shown

-- a refusal that is no want of memory
pub data IsOfFiles : Refusal → Type 0 where
  expired : (id : ℕ) → IsOfFiles (refusals.Expired id)
  damaged : (path : List ℕ) (place : ℕ) → IsOfFiles (refusals.Damaged path place)
  unsupported : (what text : List ℕ) → IsOfFiles (refusals.Unsupported what text)

-- an answer shows one of these, or that memory ran out where it may
abbrev pub IsShownAs : Phase → Answer → Refusal → Type 0
IsShownAs m answer refusal = ((refusal ≡ refusals.Memory) × MayTakeMemory m answer) ⊎ IsOfFiles refusal

of_file_fault : (refusal : Refusal) (P : Type 0) → P → IsFileFault refusal → ((refusal ≡ refusals.Memory) × P) ⊎ IsOfFiles refusal
of_file_fault refusals.Memory P may fault = inl (refl, may)
of_file_fault (refusals.Damaged path place) P may fault = inr (damaged path place)
of_file_fault (refusals.Unsupported what text) P may fault = inr (unsupported what text)
of_file_fault other P may fault = absurd fault

pub shown_as : (m : Phase) (answer : Answer) (refusal : Refusal) → Shown m answer refusal → IsShownAs m answer refusal
shown_as (phases.Files r) (answers.Found (Some bytes)) refusal (inl is) = inl (is, tt)
shown_as (phases.Files r) (answers.Found (Some bytes)) refusal (inr bad) =
    of_file_fault refusal (Unit {0}) tt (refuses_fault r.collected.schema r.next bytes r.collected.rows refusal bad)
shown_as (phases.Again id path) (answers.Found None) refusal is = inr (subst IsOfFiles (sym is) (expired id))
shown_as (phases.Again id path) (answers.Found (Some bytes)) refusal is = inr (subst IsOfFiles (sym is) (damaged path 0))
shown_as m answer refusal shown = absurd shown
