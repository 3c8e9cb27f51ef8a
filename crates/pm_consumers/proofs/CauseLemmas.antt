-- Which refusals a folder that stands can show a lister, whatever others do between its calls.
use Rattle.std.proofs.Common.{◌≡◌, inl, inr, ℕ, List, Option, None, Some, option_map, IfSome, refl, sym, ap, ◌∙◌, subst}
use Rattle.std.specs.FinMap as map
use Rattle.std.proofs.lemmas.Option.{IfSome_then}
use Rattle.pm_values.specs.declared.refusal.Refusal.{Refusal}
use Rattle.pm_values.specs.declared.refusal.Refusal.TheVariants as refusals
use Rattle.pm_store.specs.declared.answer.Answer.{Answer}
use Rattle.pm_store.specs.declared.answer.Answer.TheVariants as answers
use Rattle.pm_store.specs.declared.call.Call.{Call}
use Rattle.pm_store.specs.Answers.{Answers}
use Rattle.pm_store.specs.Files.{Files}
use Rattle.pm_machine.specs.Moves.{IsKept, Truthful}
use Rattle.pm_machine.specs.Running.{Refuses}
use Rattle.pm_machine.proofs.PhaseFacts.{truthful_of_spared}
use Rattle.pm_model_folder.specs.Ledger.{Past, Stands}
use Rattle.pm_model_folder.specs.Paths.{consumer_path}
use Rattle.pm_read_schema.specs.Beside.{AnyPast, IsTold}
use Rattle.pm_read_consumer.specs.Reader.{IsDamaged, consumer_call}
use Rattle.pm_read_consumer.proofs.Facts.{not_damaged}
use Rattle.pm_consumers.specs.Lister.{next_call, Shown}
use Rattle.pm_consumers.specs.Reading.{ReadingView, next_name}
use Rattle.pm_consumers.specs.declared.phase.Phase.{Phase}
use Rattle.pm_consumers.specs.declared.phase.Phase.TheVariants as phases
use Rattle.pm_consumers.proofs.Facts.{spares}

one_name : (name other : List ℕ) → Some name ≡ Some other → name ≡ other
one_name name other same = cc

-- no file is damaged that is read next
not_shown : (r : ReadingView) (next : Option (List ℕ)) (name bytes : List ℕ) (refusal : Refusal) (f : Files) (p : Past) → Stands f p → next_name r ≡ next
    → next_name r ≡ Some name → IsDamaged bytes
    → IfSome (option_map consumer_call next) (λ call. Answers call (answers.Found (Some bytes)) f → refusal ≡ refusals.Memory)
not_shown r None name bytes refusal f p stands at next bad = tt
not_shown r (Some other) name bytes refusal f p stands at next bad = λ told.
    let same : other ≡ name = one_name other name (sym at ∙ next) in
    absurd (not_damaged f p.history name bytes stands.folder (told ∙ ap (λ (name : List ℕ). map.get f (consumer_path name)) same) bad)

memory_alone : (next : Option Call) (answer : Answer) (refusal : Refusal) (f : Files) → refusal ≡ refusals.Memory
    → IfSome next (λ call. Answers call answer f → refusal ≡ refusals.Memory)
memory_alone None answer refusal f is = tt
memory_alone (Some call) answer refusal f is = λ told. is

cause_at : (m : Phase) (answer : Answer) (refusal : Refusal) (f : Files) (p : Past) → Shown m answer refusal → Stands f p
    → IfSome (next_call m) (λ call. Answers call answer f → refusal ≡ refusals.Memory)
cause_at phases.List (answers.Listed files) refusal f p is stands = memory_alone (next_call phases.List) (answers.Listed files) refusal f is
cause_at (phases.Read r) (answers.Found (Some bytes)) refusal f p (inl is) stands =
    memory_alone (next_call (phases.Read r)) (answers.Found (Some bytes)) refusal f is
cause_at (phases.Read r) (answers.Found (Some bytes)) refusal f p (inr (name, next, is, bad)) stands =
    not_shown r (next_name r) name bytes refusal f p stands refl next bad
cause_at m answer refusal f p shown stands = absurd shown

pub at_call : (next : Option Call) (call : Call) (P : Call → Type 0) → next ≡ Some call → IfSome next P → P call
at_call None call P is if = cc
at_call (Some own) call P is if = let same : own ≡ call = cc in subst P same if

pub causes : (m : Phase) (call : Call) (answer : Answer) (refusal : Refusal) (f : Files) (p : Past) → Stands f p → next_call m ≡ Some call
    → Answers call answer f → Shown m answer refusal → refusal ≡ refusals.Memory
causes m call answer refusal f p stands is told shown =
    at_call (next_call m) call (λ call. Answers call answer f → refusal ≡ refusals.Memory) is (cause_at m answer refusal f p shown stands) told

-- of which nothing need be told
pub memory_told : (refusal : Refusal) (f : Files) (p : Past) → refusal ≡ refusals.Memory → IsTold refusal f p
memory_told refusal f p is = subst (λ (refusal : Refusal). IsTold refusal f p) (sym is) tt

pub told_at : (m : Phase) (answer : Answer) (refusal : Refusal) (f : Files) (p : Past) → Shown m answer refusal → Stands f p
    → IfSome (next_call m) (λ call. Answers call answer f → IsTold refusal f p)
told_at m answer refusal f p shown stands =
    IfSome_then (next_call m) (cause_at m answer refusal f p shown stands) (λ call is told. memory_told refusal f p (is told))

pub truthful : Truthful next_call (λ m. Unit {0}) (Refuses Shown phases.Over) Stands (λ m. IsKept) (λ m. AnyPast) IsTold
truthful = truthful_of_spared next_call (λ m. Unit {0}) Shown phases.Over Stands (λ m. AnyPast) IsTold spares
    (λ m call answer refusal f p held stands known is told shown. memory_told refusal f p (causes m call answer refusal f p stands is told shown))
    (λ f p. tt) (λ path f p. tt)
