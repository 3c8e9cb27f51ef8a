-- Which refusals a folder that stands can show a reader of a frame, whatever others do between its calls.
use Rattle.std.proofs.Common.{◌≡◌, inl, inr, ℕ, List, ◌∷◌, Bool, true, Option, None, Some, Err, refl, sym, ◌∙◌, subst}
use Rattle.std.specs.FinMap as paths
use Rattle.pm_values.specs.declared.record.Stamped.{Stamped}
use Rattle.pm_values.specs.declared.refusal.Refusal.{Refusal}
use Rattle.pm_values.specs.declared.refusal.Refusal.TheVariants as refusals
use Rattle.pm_store.specs.Answers.{Answers}
use Rattle.pm_store.specs.Files.{Files}
use Rattle.pm_store.specs.declared.answer.Answer.{Answer}
use Rattle.pm_store.specs.declared.answer.Answer.TheVariants as answers
use Rattle.pm_store.specs.declared.call.Call.{Call}
use Rattle.pm_machine.specs.Moves.{IsKept, Truthful}
use Rattle.pm_machine.specs.Running.{Refuses}
use Rattle.pm_machine.proofs.PhaseFacts.{truthful_of_spared}
use Rattle.pm_schema.specs.declared.schema.TableSchema.{TableSchema}
use Rattle.pm_run.specs.Reader.{OpensRun, RunView, StillGives, before_first}
use Rattle.pm_run.specs.Rows.{Follow, HasRows, Opened, opened_with}
use Rattle.pm_manifest.specs.declared.entry.Entry as files
use Rattle.pm_model_folder.specs.Ledger.{Past, Stands}
use Rattle.pm_model_folder.proofs.HoldLemmas.{OneContents}
use Rattle.pm_read_schema.specs.Beside.{IsTold}
use Rattle.pm_read_table.specs.Meaning.{MayRefuse}
use Rattle.pm_read_table.proofs.CauseLemmas.{at_call, expired, gone_snapshot, may_tell}
use Rattle.pm_read_log.specs.LogMeaning as log_meaning
use Rattle.pm_read_log.specs.LogReader as log
use Rattle.pm_read_log.specs.declared.log.Log.{Log}
use Rattle.pm_read_log.specs.declared.log_phase.LogPhase.{LogPhase}
use Rattle.pm_read_frame.specs.Meaning.{HasTaken, Knows}
use Rattle.pm_read_frame.specs.Reader.{next_call, IsReader, Shown}
use Rattle.pm_read_frame.specs.Taken.{RefusesFile, file_of, misread, unopened}
use Rattle.pm_read_frame.specs.declared.file.ChangesFile.{ChangesFile}
use Rattle.pm_read_frame.specs.declared.phase.Phase.{Phase}
use Rattle.pm_read_frame.specs.declared.phase.Phase.TheVariants as phases
use Rattle.pm_read_frame.proofs.ChangeLemmas.{RowLaws, found_same}
use Rattle.pm_read_frame.proofs.Facts.{spares}
use Rattle.pm_read_frame.proofs.StoodLemmas.{IsThere, next, next_file, next_stood}

-- a file with rows isn't opened only where memory ran out
abbrev pub OpensLaw : Type 0
OpensLaw = (s : TableSchema) (changes : Bool) (path bytes : List ℕ) (rows : List Stamped) (e : Refusal) → HasRows s changes bytes rows
    → OpensRun s changes s.id path bytes (Err e) → e ≡ refusals.Memory

end_not : (e : Refusal) → ◌≡◌ {A = Option Refusal} None (Some e) → ⊥
end_not e is = cc

-- a file of these rows is refused only where memory ran out
pub refused_not : OpensLaw → RowLaws → (f : Files) (s : TableSchema) (e : files.Entry) (bytes : List ℕ) (refusal : Refusal) → IsThere f s e
    → paths.get f (file_of s e).path ≡ Some bytes → RefusesFile s (file_of s e) bytes refusal → refusal ≡ refusals.Memory
refused_not opens laws f s e bytes refusal (stored, file) there refuses = by_cause refuses
  where
    same : file.bytes ≡ bytes
    same = found_same f (file_of s e).path file.bytes bytes file.there there

    has : HasRows s true bytes stored
    has = subst (λ (bytes : List ℕ). HasRows s true bytes stored) same file.read

    by_cause : RefusesFile s (file_of s e) bytes refusal → refusal ≡ refusals.Memory
    by_cause (unopened refused) =
        opens s true (file_of s e).path bytes stored refusal has (subst (λ (id : ℕ). OpensRun s true id (file_of s e).path bytes (Err refusal)) file.schema refused)
    by_cause (misread v rows (of_it, r, opened, fields, is) follow) =
        let o : Opened = opened_with s true (file_of s e).path r in
        let given : StillGives v stored None = laws.gives s true (file_of s e).path bytes v stored has (refl, r, opened, fields, is) in
        let still : StillGives (before_first o) stored None = subst (λ (v : RunView). StillGives v stored None) is given in
        let own : Follow o o.file.first None rows (Some refusal) = subst (λ (v : RunView). Follow v.opened v.opened.file.first None rows (Some refusal)) is follow in
        absurd (end_not refusal (laws.follow o o.file.first None still.0 rows None (Some refusal) still.2 own).1)

-- what the reader of a changelog is shown
abbrev pub LogCauses : Type 0
LogCauses = (m : LogPhase) (call : Call) (answer : Answer) (refusal : Refusal) (f : Files) (p : Past) → Stands f p → log_meaning.Knows m f p
    → log.next_call m ≡ Some call → Answers call answer f → log.Shown m answer refusal → MayRefuse f p refusal

module _ (log_causes : LogCauses) (one : OneContents) (opens : OpensLaw) (laws : RowLaws) where
  file_cause : (f : Files) (p : Past) (l : Log) (rows : List Stamped) (file : ChangesFile) (rest : List ChangesFile) (bytes : List ℕ) (refusal : Refusal) → Stands f p
      → HasTaken p l rows (file ∷ rest) → Some bytes ≡ paths.get f file.path → RefusesFile l.schema file bytes refusal → MayRefuse f p refusal
  file_cause f p l rows file rest bytes refusal stands taken told bad =
      let g = p.stood l.snapshot.id in
      let found = next_stood one f p l rows file rest stands taken bytes told in
      let n = next one f p l rows file rest stands taken in
      let memory : refusal ≡ refusals.Memory =
      refused_not opens laws g l.schema n.entry bytes refusal (next_file one f p l rows file rest stands taken)
      (subst (λ (file : ChangesFile). paths.get g file.path ≡ Some bytes) n.is found)
      (subst (λ (file : ChangesFile). RefusesFile l.schema file bytes refusal) n.is bad) in
      subst (MayRefuse f p) (sym memory) tt

  pub causes : (m : Phase) (call : Call) (answer : Answer) (refusal : Refusal) (f : Files) (p : Past) → Stands f p → Knows m f p
      → next_call m ≡ Some call → Answers call answer f → Shown m answer refusal → MayRefuse f p refusal
  causes (phases.Log r) call answer refusal f p stands known at told (inl (is, l, ready)) = subst (MayRefuse f p) (sym is) tt
  causes (phases.Log r) call answer refusal f p stands known at told (inr shown) = log_causes r call answer refusal f p stands known at told shown
  causes (phases.Files r) call (answers.Found (Some bytes)) refusal f p stands known at told (inl is) = subst (MayRefuse f p) (sym is) tt
  causes (phases.Files r) call (answers.Found (Some bytes)) refusal f p stands (l, same, id, taken) at told (inr bad) =
      at_call (next_call (phases.Files r)) call (λ call. Answers call (answers.Found (Some bytes)) f → MayRefuse f p refusal) at
      (λ told. file_cause f p l r.rows r.next r.rest bytes refusal stands taken told (subst (λ (s : TableSchema). RefusesFile s r.next bytes refusal) same bad)) told
  causes (phases.Again id path) call (answers.Found None) refusal f p stands (s, gone) at told is =
      at_call (next_call (phases.Again id path)) call (λ call. Answers call (answers.Found None) f → MayRefuse f p refusal) at
      (λ told. expired f p s id refusal gone.table gone.known.to (gone_snapshot f s id gone.known.after_origin told) is) told
  causes (phases.Again id path) call (answers.Found (Some bytes)) refusal f p stands (s, gone) at told is =
      at_call (next_call (phases.Again id path)) call (λ call. Answers call (answers.Found (Some bytes)) f → MayRefuse f p refusal) at
      (λ told. absurd (let clash : Some bytes ≡ None = told ∙ gone.absent in cc)) told
  causes m call answer refusal f p stands known at told shown = absurd shown

-- ---- what a refusal tells

-- what the law of causes says
abbrev pub Causes : Type 0
Causes = (m : Phase) (call : Call) (answer : Answer) (refusal : Refusal) (f : Files) (p : Past) → Stands f p → Knows m f p → next_call m ≡ Some call
    → Answers call answer f → Shown m answer refusal → MayRefuse f p refusal

pub truthful : Causes → Truthful next_call IsReader (Refuses Shown phases.Over) Stands (λ m. IsKept) Knows IsTold
truthful law = truthful_of_spared next_call IsReader Shown phases.Over Stands Knows IsTold spares
    (λ m call answer refusal f p held stands known is told shown. may_tell refusal f p (law m call answer refusal f p stands known is told shown))
    (λ f p. tt) (λ path f p. tt)
