-- The reader of a view's files within a scanner.
use Rattle.std.proofs.Common.{◌≡◌, ℕ, None, Some, Vec, refl, sym, subst}
use Rattle.std.specs.Global.{Global}
use Rattle.pm_values.specs.declared.refusal.Refusal.{Refusal}
use Rattle.pm_values.specs.declared.refusal.Refusal.TheVariants as refusals
use Rattle.pm_store.specs.declared.answer.Answer.{Answer}
use Rattle.pm_store.specs.declared.answer.Answer.TheVariants as answers
use Rattle.pm_engine.specs.OfSchema.{meaning_of}
use Rattle.pm_scan_rows.specs.Group.{runs_read}
use Rattle.pm_scan_rows.specs.Shown.{PrintsGroups}
use Rattle.pm_group_files.specs.Collected.{Collected}
use Rattle.pm_group_files.specs.Reader as files
use Rattle.pm_group_files.specs.Trace as files_trace
use Rattle.pm_group_files.specs.declared.phase.Phase as files_phase
use Rattle.pm_group_files.specs.declared.phase.Phase.TheVariants as readers
use Rattle.pm_scan.specs.Scanner.{AfterFiles, FailsToPrint}
use Rattle.pm_scan.specs.declared.phase.Phase.{Phase}
use Rattle.pm_scan.specs.declared.phase.Phase.TheVariants as phases
use Rattle.pm_scan.specs.declared.rows.Rows.{Rows}

-- the scanner holds the reader, or has the text; what is so of the reader is so of it once all files were read
pub with_files : (Q : files_phase.Phase → Type 0) (X : Type 0) (k : Rows) (id : ℕ) (m : files_phase.Phase) (later : Phase) → AfterFiles k id m later → Q m
    → ((files.IsReady m → ⊥) → later ≡ phases.Files k id m → X)
    → ((c : Collected) (text : Vec ℕ Global) → Q (readers.Ready c) → PrintsGroups (meaning_of c.schema) (runs_read c.groups) text.items → later ≡ phases.Ready k id text → X) → X
with_files Q X k id (readers.Files r) later is so held printed = held (λ ready. ready) is
with_files Q X k id (readers.Again n path) later is so held printed = held (λ ready. ready) is
with_files Q X k id (readers.Ready c) later (text, prints, is) so held printed = printed c text so prints is
with_files Q X k id readers.Over later is so held printed = held (λ ready. ready) is

-- it holds a reader that isn't ready
pub held : (k : Rows) (id : ℕ) (m : files_phase.Phase) → (files.IsReady m → ⊥) → AfterFiles k id m (phases.Files k id m)
held k id (readers.Files r) none = refl
held k id (readers.Again n path) none = refl
held k id (readers.Ready c) none = absurd (none tt)
held k id readers.Over none = refl

-- it has the text of a reader that is
pub printed : (k : Rows) (id : ℕ) (m : files_phase.Phase) (c : Collected) (text : Vec ℕ Global) → m ≡ readers.Ready c → PrintsGroups (meaning_of c.schema) (runs_read c.groups) text.items
    → AfterFiles k id m (phases.Ready k id text)
printed k id m c text is prints = subst (λ (m : files_phase.Phase). AfterFiles k id m (phases.Ready k id text)) (sym is) (text, prints, refl)

-- memory ran out where the groups were to be printed
pub failed : (m : files_phase.Phase) (answer : Answer) (new : files_phase.Phase) (refusal : Refusal) → files.Goes m answer new → refusal ≡ refusals.Memory → files.IsReady new
    → FailsToPrint m answer refusal
failed m answer (readers.Files r) refusal goes is ready = absurd ready
failed m answer (readers.Again n path) refusal goes is ready = absurd ready
failed m answer (readers.Ready c) refusal goes is ready = (is, c, goes)
failed m answer readers.Over refusal goes is ready = absurd ready

-- all files are read only once a file was found
pub may_print : (m : files_phase.Phase) (answer : Answer) (c : Collected) → files.Goes m answer (readers.Ready c) → files_trace.MayTakeMemory m answer
may_print (readers.Files r) (answers.Found None) c is = absurd (let clash : readers.Ready c ≡ readers.Again r.id r.next.path = is in cc)
may_print (readers.Files r) (answers.Found (Some bytes)) c goes = tt
may_print m answer c goes = absurd goes
