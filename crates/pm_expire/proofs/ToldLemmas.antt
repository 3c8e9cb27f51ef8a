-- What a step that is refused tells, whatever others do between its calls.
use Rattle.std.proofs.Common.{◌≡◌, inl, inr, Option, None, Some, IfSome, refl, sym, subst}
use Rattle.std.proofs.lemmas.Option.{IfSome_then}
use Rattle.pm_values.specs.declared.refusal.Refusal.{Refusal}
use Rattle.pm_values.specs.declared.refusal.Refusal.TheVariants as refusals
use Rattle.pm_store.specs.declared.answer.Answer.{Answer}
use Rattle.pm_store.specs.declared.call.Call.{Call}
use Rattle.pm_store.specs.Answers.{Answers}
use Rattle.pm_store.specs.Files.{Files, carried}
use Rattle.pm_machine.specs.Moves.{Truthful}
use Rattle.pm_machine.specs.Running.{Refuses}
use Rattle.pm_model_folder.specs.Ledger.{Past, Stands}
use Rattle.pm_read_whole.specs.Meaning as whole_meaning
use Rattle.pm_read_whole.specs.Whole as whole
use Rattle.pm_read_whole.specs.declared.phase.Phase as whole_phase
use Rattle.pm_read_whole.proofs.Facts as whole_facts
use Rattle.pm_snapshots.proofs.CauseLemmas.{at_call}
use Rattle.pm_read_expiry.specs.Meaning as reading_meaning
use Rattle.pm_read_expiry.specs.Reader as reading
use Rattle.pm_read_expiry.proofs.CauseLemmas as reading_causes
use Rattle.pm_read_expiry.proofs.Facts as reading_facts
use Rattle.pm_announce.specs.Announcer as announcing
use Rattle.pm_announce.specs.Meaning as announcing_meaning
use Rattle.pm_announce.proofs.CauseLemmas as announcing_causes
use Rattle.pm_announce.proofs.CauseLemmas.{still_told}
use Rattle.pm_expire.specs.Expirer.{next_call, IsExpirer, Shown}
use Rattle.pm_expire.specs.Meaning.{Beside, IsTold, Knows, KnowsBeside, MakesBeside, MayRefuse, StandsBeside, TellsBeside}
use Rattle.pm_expire.specs.declared.phase.Phase.{Phase}
use Rattle.pm_expire.specs.declared.phase.Phase.TheVariants as phases

-- ---- which refusals answers show

-- what the law of causes of the reader of whole views says
abbrev pub WholeCauses : Type 0
WholeCauses = (m : whole_phase.Phase) (call : Call) (answer : Answer) (refusal : Refusal) (f : Files) (p : Past) → Stands f p → whole.IsWhole m
    → whole_meaning.Knows m f p → whole.next_call m ≡ Some call → Answers call answer f → whole.Shown m answer refusal → whole_meaning.MayRefuse f p refusal

-- want of memory may come always
memory_may : (refusal : Refusal) (f : Files) (p : Past) → refusal ≡ refusals.Memory → MayRefuse f p refusal
memory_may refusal f p is = subst (MayRefuse f p) (sym is) tt

memory_next : (next : Option Call) (answer : Answer) (refusal : Refusal) (f : Files) (p : Past) → refusal ≡ refusals.Memory
    → IfSome next (λ call. Answers call answer f → MayRefuse f p refusal)
memory_next None answer refusal f p is = tt
memory_next (Some call) answer refusal f p is = λ told. memory_may refusal f p is

-- what its parts may be refused for
of_reading : (refusal : Refusal) (f : Files) (p : Past) → reading_meaning.MayRefuse f p refusal → MayRefuse f p refusal
of_reading (refusals.Unsupported what text) f p may = absurd may
of_reading other f p may = may

of_announcing : (refusal : Refusal) (f : Files) (p : Past) → announcing_meaning.MayRefuse f refusal → MayRefuse f p refusal
of_announcing refusals.Memory f p may = tt
of_announcing (refusals.Unsupported what text) f p may = may
of_announcing other f p may = absurd may

of_view : (refusal : Refusal) (f : Files) (p : Past) → whole_meaning.MayRefuse f p refusal → MayRefuse f p refusal
of_view refusals.Memory f p may = tt
of_view (refusals.Expired id) f p may = may
of_view other f p may = absurd may

view_may : WholeCauses → (m : whole_phase.Phase) (next : Option Call) (answer : Answer) (refusal : Refusal) (f : Files) (p : Past) → whole.next_call m ≡ next
    → whole.Shown m answer refusal → Stands f p → whole.IsWhole m → whole_meaning.Knows m f p → IfSome next (λ call. Answers call answer f → MayRefuse f p refusal)
view_may law m None answer refusal f p is shown stands holds known = tt
view_may law m (Some call) answer refusal f p is shown stands holds known = λ told.
    of_view refusal f p (law m call answer refusal f p stands holds known is told shown)

cause_at : WholeCauses → (m : Phase) (answer : Answer) (refusal : Refusal) (f : Files) (p : Past) → Shown m answer refusal → Stands f p → IsExpirer m → Knows m f p
    → IfSome (next_call m) (λ call. Answers call answer f → MayRefuse f p refusal)
cause_at law (phases.Read m) answer refusal f p shown stands is known =
    IfSome_then (reading.next_call m) (reading_causes.cause_at m answer refusal f p shown stands known.1) (λ call may told. of_reading refusal f p (may told))
cause_at law (phases.Announce m) answer refusal f p (inl fails) stands is known = memory_next (announcing.next_call m) answer refusal f p fails.0
cause_at law (phases.Announce m) answer refusal f p (inr shown) stands is known =
    IfSome_then (announcing.next_call m) (announcing_causes.may_at m answer refusal f p shown stands) (λ call may told. of_announcing refusal f p (may told))
cause_at law (phases.View v m) answer refusal f p (inl fails) stands is known = memory_next (whole.next_call m) answer refusal f p fails.0
cause_at law (phases.View v m) answer refusal f p (inr shown) stands is known =
    view_may law m (whole.next_call m) answer refusal f p refl shown stands is.1.whole known.reader
cause_at law m answer refusal f p shown stands is known = absurd shown

pub causes : WholeCauses → (m : Phase) (call : Call) (answer : Answer) (refusal : Refusal) (f : Files) (p : Past) → Stands f p → IsExpirer m → Knows m f p
    → next_call m ≡ Some call → Answers call answer f → Shown m answer refusal → MayRefuse f p refusal
causes law m call answer refusal f p stands holds known is told shown =
    at_call (next_call m) call (λ call. Answers call answer f → MayRefuse f p refusal) is (cause_at law m answer refusal f p shown stands holds known) told

-- ---- what is told after the call

-- what the law of causes says
abbrev pub Causes : Type 0
Causes = (m : Phase) (call : Call) (answer : Answer) (refusal : Refusal) (f : Files) (p : Past) → Stands f p → IsExpirer m → Knows m f p
    → next_call m ≡ Some call → Answers call answer f → Shown m answer refusal → MayRefuse f p refusal

tells : (refusal : Refusal) (f : Files) (p : Past) → MayRefuse f p refusal → IsTold refusal f p
tells (refusals.StoreFault path) f p may = tt
tells other f p may = may

told_next : Causes → (m : Phase) (next : Option Call) (answer : Answer) (refusal : Refusal) (f : Files) (p : Past) → next_call m ≡ next → Shown m answer refusal
    → Stands f p → IsExpirer m → Knows m f p → IfSome next (λ call. Answers call answer f → IsTold refusal f p)
told_next law m None answer refusal f p is shown stands holds known = tt
told_next law m (Some call) answer refusal f p is shown stands holds known = λ told.
    tells refusal f p (law m call answer refusal f p stands holds known is told shown)

-- of want of memory nothing need be told
tells_memory : (next : Option Call) (answer : Answer) (refusal : Refusal) (f : Files) (Makes : Call → Type 0) (later : Past) → refusal ≡ refusals.Memory
    → IfSome next (λ call. Answers call answer f → Makes call → IsTold refusal (carried call f) later)
tells_memory None answer refusal f Makes later is = tt
tells_memory (Some call) answer refusal f Makes later is = λ told makes. subst (λ (refusal : Refusal). IsTold refusal (carried call f) later) (sym is) tt

-- what an announcer tells
of_told : (refusal : Refusal) (f : Files) (p : Past) → announcing_meaning.IsTold refusal f p → IsTold refusal f p
of_told refusals.Memory f p told = tt
of_told (refusals.StoreFault path) f p told = tt
of_told (refusals.Unsupported what text) f p told = told
of_told other f p told = absurd told

answered_at : Causes → (m : Phase) (answer : Answer) (refusal : Refusal) (f : Files) (b later : Beside) → IsExpirer m → Shown m answer refusal → StandsBeside f b
    → KnowsBeside m f b → IfSome (next_call m) (λ call. Answers call answer f → MakesBeside m f b (carried call f) later → TellsBeside refusal (carried call f) later)
answered_at law (phases.Read m) answer refusal f b later is shown stands known =
    IfSome_then (reading.next_call m)
    (still_told (IsTold refusal) (reading.next_call m) answer f b.1 later.1 (reading_facts.spares m f)
    (told_next law (phases.Read m) (reading.next_call m) answer refusal f b.1 refl shown stands is known))
    (λ call tells told makes. tells told makes.1)
answered_at law (phases.Announce m) answer refusal f b later is (inl fails) stands known =
    tells_memory (announcing.next_call m) answer refusal f (λ call. MakesBeside (phases.Announce m) f b (carried call f) later) later.1 fails.0
answered_at law (phases.Announce m) answer refusal f b later is (inr shown) stands known =
    IfSome_then (announcing.next_call m) (announcing_causes.answered_at m answer refusal f b later shown stands)
    (λ call tells told makes. of_told refusal (carried call f) later.1 (tells told makes))
answered_at law (phases.View v m) answer refusal f b later is shown stands known =
    IfSome_then (whole.next_call m)
    (still_told (IsTold refusal) (whole.next_call m) answer f b.1 later.1 (whole_facts.spares m f)
    (told_next law (phases.View v m) (whole.next_call m) answer refusal f b.1 refl shown stands is known))
    (λ call tells told makes. tells told makes.1)
answered_at law m answer refusal f b later is shown stands known = absurd shown

pub truthful : Causes → Truthful next_call IsExpirer (Refuses Shown phases.Over) StandsBeside MakesBeside KnowsBeside TellsBeside
truthful law = record {
  answered = λ m new answer refusal f b later holds refuses stands known. answered_at law m answer refusal f b later holds refuses.0 stands known;
  memory = λ f b. tt;
  fault = λ path f b. tt;
}
