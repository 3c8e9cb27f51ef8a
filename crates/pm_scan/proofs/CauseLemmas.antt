-- Which refusals a folder that stands can show a scanner, whatever others do between its calls.
use Rattle.std.proofs.Common.{◌≡◌, inl, inr, Some, sym, subst}
use Rattle.pm_values.specs.declared.refusal.Refusal.{Refusal}
use Rattle.pm_store.specs.Answers.{Answers}
use Rattle.pm_store.specs.Files.{Files}
use Rattle.pm_store.specs.declared.answer.Answer.{Answer}
use Rattle.pm_store.specs.declared.call.Call.{Call}
use Rattle.pm_machine.specs.Moves.{IsKept, Truthful}
use Rattle.pm_machine.specs.Running.{Refuses}
use Rattle.pm_machine.proofs.PhaseFacts.{truthful_of_spared}
use Rattle.pm_model_folder.specs.Ledger.{Past, Stands}
use Rattle.pm_read_schema.specs.Beside.{IsTold}
use Rattle.pm_read_table.specs.Meaning as reader_meaning
use Rattle.pm_read_table.specs.Meaning.{MayRefuse}
use Rattle.pm_read_table.specs.Reader as reader
use Rattle.pm_read_table.specs.declared.phase.Phase as view_phase
use Rattle.pm_read_table.proofs.CauseLemmas.{may_tell}
use Rattle.pm_group_files.specs.Chosen.{Chosen}
use Rattle.pm_group_files.specs.Meaning as files_meaning
use Rattle.pm_group_files.specs.Reader as files
use Rattle.pm_group_files.specs.declared.phase.Phase as files_phase
use Rattle.pm_scan.specs.Meaning.{all_of, Knows}
use Rattle.pm_scan.specs.Scanner.{next_call, IsScanner, Shown}
use Rattle.pm_scan.specs.declared.phase.Phase.{Phase}
use Rattle.pm_scan.specs.declared.phase.Phase.TheVariants as phases
use Rattle.pm_scan.proofs.Facts.{spares}

-- what the law of causes of the view's reader says
abbrev pub ReaderCauses : Type 0
ReaderCauses = (m : view_phase.Phase) (call : Call) (answer : Answer) (refusal : Refusal) (f : Files) (p : Past) → Stands f p → reader_meaning.Knows m f p
    → reader.next_call m ≡ Some call → Answers call answer f → reader.Shown m answer refusal → MayRefuse f p refusal

-- and that of the files'
abbrev pub FilesCauses : Type 0
FilesCauses = (a : Chosen) (m : files_phase.Phase) (call : Call) (answer : Answer) (refusal : Refusal) (f : Files) (p : Past) → Stands f p → files_meaning.Knows a m f p
    → files.next_call m ≡ Some call → Answers call answer f → files.Shown m answer refusal → MayRefuse f p refusal

pub causes : ReaderCauses → FilesCauses → (m : Phase) (call : Call) (answer : Answer) (refusal : Refusal) (f : Files) (p : Past) → Stands f p → Knows m f p
    → next_call m ≡ Some call → Answers call answer f → Shown m answer refusal → MayRefuse f p refusal
causes view own (phases.View k r) call answer refusal f p stands known at told (inl (is, v, engine, goes)) = subst (MayRefuse f p) (sym is) tt
causes view own (phases.View k r) call answer refusal f p stands known at told (inr shown) = view r call answer refusal f p stands known at told shown
causes view own (phases.Files k id m) call answer refusal f p stands known at told (inl (is, c, goes)) = subst (MayRefuse f p) (sym is) tt
causes view own (phases.Files k id m) call answer refusal f p stands (v, same, table, known) at told (inr shown) =
    own (all_of k v) m call answer refusal f p stands known at told shown
causes view own m call answer refusal f p stands known at told shown = absurd shown

-- what a refusal tells
pub truthful : ReaderCauses → FilesCauses → Truthful next_call IsScanner (Refuses Shown phases.Over) Stands (λ m. IsKept) Knows IsTold
truthful view own = truthful_of_spared next_call IsScanner Shown phases.Over Stands Knows IsTold spares
    (λ m call answer refusal f p held stands known is told shown. may_tell refusal f p (causes view own m call answer refusal f p stands known is told shown))
    (λ f p. tt) (λ path f p. tt)
