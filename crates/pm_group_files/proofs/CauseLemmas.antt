-- Which refusals a folder that stands can show a reader of files, whatever others do between its calls.
use Rattle.std.proofs.Common.{◌≡◌, inl, inr, ℕ, zero, suc, ◌≤◌, List, ◌∷◌, None, Some, refl, sym, ◌∙◌, subst, arith}
use Rattle.std.specs.FinMap as map
use Rattle.pm_values.specs.declared.refusal.Refusal.{Refusal}
use Rattle.pm_values.specs.declared.refusal.Refusal.TheVariants as refusals
use Rattle.pm_store.specs.Answers.{Answers}
use Rattle.pm_store.specs.Files.{Files}
use Rattle.pm_store.specs.declared.answer.Answer.{Answer}
use Rattle.pm_store.specs.declared.answer.Answer.TheVariants as answers
use Rattle.pm_store.specs.declared.call.Call.{Call}
use Rattle.pm_store.specs.declared.call.Call.TheVariants as calls
use Rattle.pm_machine.specs.Moves.{IsKept, Truthful}
use Rattle.pm_machine.specs.Running.{Refuses}
use Rattle.pm_machine.proofs.PhaseFacts.{truthful_of_spared}
use Rattle.pm_schema.specs.declared.schema.TableSchema.{TableSchema}
use Rattle.pm_model_folder.specs.Ledger.{Past, Stands}
use Rattle.pm_model_folder.specs.Meaning.{HasSnapshotAt}
use Rattle.pm_model_folder.specs.Paths.{snapshot_path}
use Rattle.pm_model_folder.proofs.Facts.{some-none}
use Rattle.pm_read_table.specs.Meaning.{MayRefuse}
use Rattle.pm_read_table.proofs.CauseLemmas.{may_tell}
use Rattle.pm_group_files.specs.Chosen.{Chosen}
use Rattle.pm_group_files.specs.Collected.{Collected, RefusesJob, nothing_of, with_groups}
use Rattle.pm_group_files.specs.Meaning.{HasTaken, IsToldOf, Knows, KnowsChosen, StandsFor}
use Rattle.pm_group_files.specs.Reader.{next_call, Shown}
use Rattle.pm_group_files.specs.declared.job.Job.{Job}
use Rattle.pm_group_files.specs.declared.phase.Phase.{Phase}
use Rattle.pm_group_files.specs.declared.phase.Phase.TheVariants as phases
use Rattle.pm_group_files.proofs.Facts.{spares}
use Rattle.pm_group_files.proofs.NextLemmas.{next-refused}
use Rattle.pm_group_files.proofs.ReadLemmas.{all-runs, next-stood}
use Rattle.pm_group_files.proofs.TakenLemmas.{RowLaws}

-- a file that is found is refused only where memory runs out; one that is kept isn't refused
pub file-cause : (laws : RowLaws) (f : Files) (p : Past) (stands : Stands f p) (a : Chosen) (c : Collected) (job : Job) (rest : List Job) → HasTaken p a c (job ∷ rest) → (bytes : List ℕ)
    (refusal : Refusal) → Some bytes ≡ map.get f job.path → RefusesJob c.schema job bytes c.rows refusal → refusal ≡ refusals.Memory
file-cause laws f p stands a c job rest taken bytes refusal found refuses =
    next-refused laws (p.stood a.id) a.schema a.groups (nothing_of a.schema) taken.done job rest (with_groups a.given c) bytes refusal
    (record { schema = refl; runs = refl; kept = refl; rows = refl }) (all-runs p a.schema a.id a.groups taken.chosen.each) taken.parts taken.taken
    (next-stood f p stands a c job rest taken bytes (sym found)) (subst (λ (s : TableSchema). RefusesJob s job bytes c.rows refusal) taken.schema refuses)

gone-snapshot : (f : Files) (s : TableSchema) (id : ℕ) → 1 ≤ id → None ≡ map.get f (snapshot_path id) → HasSnapshotAt f s id → ⊥
gone-snapshot f s zero least none there = omega (arith, least)
gone-snapshot f s (suc id) least none there = some-none (map.get f (snapshot_path (suc id))) there (sym none)

told-of : (call own : Call) (answer : Answer) (f : Files) → Some own ≡ Some call → Answers call answer f → Answers own answer f
told-of call own answer f at told = let same : call ≡ own = cc in subst (λ (call : Call). Answers call answer f) same told

pub causes : RowLaws → (a : Chosen) (m : Phase) (call : Call) (answer : Answer) (refusal : Refusal) (f : Files) (p : Past) → Stands f p → Knows a m f p
    → next_call m ≡ Some call → Answers call answer f → Shown m answer refusal → MayRefuse f p refusal
causes laws a (phases.Files r) call (answers.Found (Some bytes)) refusal f p stands known at told (inl is) = subst (MayRefuse f p) (sym is) tt
causes laws a (phases.Files r) call (answers.Found (Some bytes)) refusal f p stands (same, taken) at told (inr refuses) =
    let found : Some bytes ≡ map.get f r.next.path = told-of call (calls.Read r.next.path) (answers.Found (Some bytes)) f at told in
    subst (MayRefuse f p) (sym (file-cause laws f p stands a r.collected r.next r.rest taken bytes refusal found refuses)) tt
causes laws a (phases.Again id path) call (answers.Found None) refusal f p stands gone at told is =
    let none : None ≡ map.get f (snapshot_path id) = told-of call (calls.Read (snapshot_path id)) (answers.Found None) f at told in
    subst (MayRefuse f p) (sym is)
    (record { schema = a.schema; table = gone.table; within = gone.known.to; absent = gone-snapshot f a.schema id gone.known.after_origin none })
causes laws a (phases.Again id path) call (answers.Found (Some bytes)) refusal f p stands gone at told is =
    let some : Some bytes ≡ map.get f (snapshot_path id) = told-of call (calls.Read (snapshot_path id)) (answers.Found (Some bytes)) f at told in
    absurd (let clash : Some bytes ≡ None = some ∙ gone.absent in cc)
causes laws a m call answer refusal f p stands known at told shown = absurd shown

-- what a refusal tells of the past, whatever was asked
pub truthful : RowLaws → Truthful next_call (λ m. Unit {0}) (Refuses Shown phases.Over) StandsFor (λ m. IsKept) KnowsChosen IsToldOf
truthful laws = truthful_of_spared next_call (λ m. Unit {0}) Shown phases.Over StandsFor KnowsChosen IsToldOf spares
    (λ m call answer refusal f h held stands known is told shown.
    may_tell refusal f h.past (causes laws h.chosen m call answer refusal f h.past stands known is told shown))
    (λ f h. tt) (λ path f h. tt)
