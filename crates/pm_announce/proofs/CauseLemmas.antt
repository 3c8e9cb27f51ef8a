-- Which refusals a folder that stands can show an announcer, whatever others do between its calls.
use Rattle.std.proofs.Common.{◌≡◌, inl, inr, Option, None, Some, IfSome, refl, sym, subst}
use Rattle.std.proofs.lemmas.Option.{IfSome_then}
use Rattle.pm_values.specs.declared.refusal.Refusal.{Refusal}
use Rattle.pm_values.specs.declared.refusal.Refusal.TheVariants as refusals
use Rattle.pm_store.specs.declared.answer.Answer.{Answer}
use Rattle.pm_store.specs.declared.answer.Answer.TheVariants as answers
use Rattle.pm_store.specs.declared.call.Call.{Call}
use Rattle.pm_store.specs.declared.call.Effect.TheVariants as effects
use Rattle.pm_store.specs.Answers.{Answers}
use Rattle.pm_store.specs.Files.{Files, carried}
use Rattle.pm_machine.specs.Moves.{IsKept, Truthful}
use Rattle.pm_machine.specs.Running.{Refuses}
use Rattle.pm_machine.proofs.PhaseFacts.{Spares}
use Rattle.pm_model_folder.specs.Ledger.{Past, Stands}
use Rattle.pm_consumers.specs.Lister as consumers
use Rattle.pm_consumers.specs.declared.phase.Phase as consuming
use Rattle.pm_consumers.proofs.CauseLemmas as consumers_causes
use Rattle.pm_consumers.proofs.CauseLemmas.{at_call}
use Rattle.pm_consumers.proofs.Facts as consumers_facts
use Rattle.pm_announce.specs.Announcer.{next_call, IsAnnouncer, Shown}
use Rattle.pm_announce.specs.Meaning.{Beside, IsTold, KnowsBeside, MakesBeside, MayRefuse, StandsBeside, TellsBeside}
use Rattle.pm_announce.specs.declared.phase.Phase.{Phase}
use Rattle.pm_announce.specs.declared.phase.Phase.TheVariants as phases

-- want of memory may come always
memory_may : (refusal : Refusal) (f : Files) → refusal ≡ refusals.Memory → MayRefuse f refusal
memory_may refusal f is = subst (MayRefuse f) (sym is) tt

consumers_may : (c : consuming.Phase) (next : Option Call) (answer : Answer) (refusal : Refusal) (f : Files) (p : Past) → consumers.next_call c ≡ next
    → consumers.Shown c answer refusal → Stands f p → IfSome next (λ call. Answers call answer f → MayRefuse f refusal)
consumers_may c None answer refusal f p is shown stands = tt
consumers_may c (Some call) answer refusal f p is shown stands = λ told.
    memory_may refusal f (consumers_causes.causes c call answer refusal f p stands is told shown)

pub may_at : (m : Phase) (answer : Answer) (refusal : Refusal) (f : Files) (p : Past) → Shown m answer refusal → Stands f p
    → IfSome (next_call m) (λ call. Answers call answer f → MayRefuse f refusal)
may_at (phases.Consumers x c) answer refusal f p shown stands = consumers_may c (consumers.next_call c) answer refusal f p refl shown stands
may_at (phases.Tags a) (answers.Listed files) refusal f p (inl memory) stands = λ told. memory_may refusal f memory
may_at (phases.Tags a) (answers.Listed files) refusal f p (inr (name, first, is)) stands = λ told.
    subst (MayRefuse f) (sym is) (refl, record { files = files.items; listing = told; is = first })
may_at m answer refusal f p shown stands = absurd shown

pub causes : (m : Phase) (call : Call) (answer : Answer) (refusal : Refusal) (f : Files) (p : Past) → Stands f p → next_call m ≡ Some call
    → Answers call answer f → Shown m answer refusal → MayRefuse f refusal
causes m call answer refusal f p stands is told shown =
    at_call (next_call m) call (λ call. Answers call answer f → MayRefuse f refusal) is (may_at m answer refusal f p shown stands) told

-- ---- what is told after the call

tells : (refusal : Refusal) (f : Files) (p : Past) → MayRefuse f refusal → IsTold refusal f p
tells (refusals.StoreFault path) f p may = tt
tells other f p may = may

told_at : (m : Phase) (answer : Answer) (refusal : Refusal) (f : Files) (p : Past) → Shown m answer refusal → Stands f p
    → IfSome (next_call m) (λ call. Answers call answer f → IsTold refusal f p)
told_at m answer refusal f p shown stands =
    IfSome_then (next_call m) (may_at m answer refusal f p shown stands) (λ call may told. tells refusal f p (may told))

-- what is told of files is told after a call that leaves them as they are
pub still_told : (P : Files → Past → Type 0) (next : Option Call) (answer : Answer) (f : Files) (p later : Past) → IfSome next (Spares f)
    → IfSome next (λ call. Answers call answer f → P f p)
    → IfSome next (λ call. Answers call answer f → IsKept f p (carried call f) later → P (carried call f) later)
still_told P None answer f p later same told = tt
still_told P (Some call) answer f p later same told = λ answered kept.
    subst (λ (g : Files). P g later) (sym (same effects.Whole)) (subst (P f) (sym kept.past) (told answered))

pub answered_at : (m : Phase) (answer : Answer) (refusal : Refusal) (f : Files) (b later : Beside) → Shown m answer refusal → StandsBeside f b
    → IfSome (next_call m) (λ call. Answers call answer f → MakesBeside m f b (carried call f) later → TellsBeside refusal (carried call f) later)
answered_at (phases.Consumers x c) answer refusal f b later shown stands =
    IfSome_then (consumers.next_call c)
    (still_told (IsTold refusal) (consumers.next_call c) answer f b.1 later.1 (consumers_facts.spares c f)
    (told_at (phases.Consumers x c) answer refusal f b.1 shown stands))
    (λ call tells told makes. tells told makes.1)
answered_at (phases.Tags a) answer refusal f b later shown stands = λ told makes.
    tells refusal f later.1 (may_at (phases.Tags a) answer refusal f b.1 shown stands told)
answered_at m answer refusal f b later shown stands = absurd shown

pub truthful : Truthful next_call IsAnnouncer (Refuses Shown phases.Over) StandsBeside MakesBeside KnowsBeside TellsBeside
truthful = record {
  answered = λ m new answer refusal f b later held refuses stands known. answered_at m answer refusal f b later refuses.0 stands;
  memory = λ f b. tt;
  fault = λ path f b. tt;
}
