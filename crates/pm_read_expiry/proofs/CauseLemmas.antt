-- Which refusals a folder that stands can show a reader, whatever others do between its calls.
use Rattle.std.proofs.Common.{◌≡◌, inl, inr, Option, None, Some, IfSome, refl, sym, subst}
use Rattle.std.proofs.lemmas.Option.{IfSome_then}
use Rattle.pm_values.specs.declared.refusal.Refusal.{Refusal}
use Rattle.pm_values.specs.declared.refusal.Refusal.TheVariants as refusals
use Rattle.pm_store.specs.declared.answer.Answer.{Answer}
use Rattle.pm_store.specs.declared.answer.Answer.TheVariants as answers
use Rattle.pm_store.specs.declared.call.Call.{Call}
use Rattle.pm_store.specs.Answers.{Answers}
use Rattle.pm_store.specs.Files.{Files}
use Rattle.pm_machine.specs.Moves.{IsKept, Truthful}
use Rattle.pm_machine.specs.Running.{Refuses}
use Rattle.pm_machine.proofs.PhaseFacts.{truthful_of_spared}
use Rattle.pm_model_history.specs.History.{IsTableOf}
use Rattle.pm_schema.specs.declared.schema.TableSchema.{TableSchema}
use Rattle.pm_model_folder.specs.Ledger.{Past, Stands}
use Rattle.pm_model_folder.specs.Paths.{snapshot_path}
use Rattle.pm_read_schema.specs.Beside as schema_beside
use Rattle.pm_snapshots.specs.Lister as lister
use Rattle.pm_snapshots.specs.Meaning as listing_meaning
use Rattle.pm_snapshots.specs.declared.phase.Phase as listing
use Rattle.pm_snapshots.specs.declared.phase.Phase.TheVariants as listers
use Rattle.pm_snapshots.proofs.CauseLemmas as listing_causes
use Rattle.pm_snapshots.proofs.CauseLemmas.{at_call}
use Rattle.pm_consumers.specs.Lister as consumers
use Rattle.pm_consumers.specs.declared.phase.Phase as consuming
use Rattle.pm_consumers.proofs.CauseLemmas as consumers_causes
use Rattle.pm_read_expiry.specs.Meaning.{IsTold, Knows, KnowsLister, MayRefuse}
use Rattle.pm_read_expiry.specs.Reader.{next_call, IsReader, Shown}
use Rattle.pm_read_expiry.specs.declared.asking.Asking.{Asking}
use Rattle.pm_read_expiry.specs.declared.phase.Phase.{Phase}
use Rattle.pm_read_expiry.specs.declared.phase.Phase.TheVariants as phases
use Rattle.pm_read_expiry.proofs.Facts.{spares}

-- what the lister of snapshots knows
lister_known : (a : Asking) (m : listing.Phase) (f : Files) (p : Past) → KnowsLister a m f p → listing_meaning.Knows m f p
lister_known a (listers.List s) f p (same, table) = subst (λ (t : TableSchema). IsTableOf t p.history) (sym same) table
lister_known a (listers.Read r) f p known = known.known
lister_known a m f p known = absurd known

-- want of memory may come always
memory_may : (refusal : Refusal) (f : Files) (p : Past) → refusal ≡ refusals.Memory → MayRefuse f p refusal
memory_may refusal f p is = subst (MayRefuse f p) (sym is) tt

memory_next : (next : Option Call) (answer : Answer) (refusal : Refusal) (f : Files) (p : Past) → refusal ≡ refusals.Memory
    → IfSome next (λ call. Answers call answer f → MayRefuse f p refusal)
memory_next None answer refusal f p is = tt
memory_next (Some call) answer refusal f p is = λ told. memory_may refusal f p is

-- what is told of a listed snapshot
told_may : (refusal shown : Refusal) (f : Files) (p : Past) → refusal ≡ shown → (schema_beside.IsTold shown f p → MayRefuse f p shown)
    → schema_beside.IsTold refusal f p → MayRefuse f p refusal
told_may refusal shown f p is then told = subst (MayRefuse f p) (sym is) (then (subst (λ (refusal : Refusal). schema_beside.IsTold refusal f p) is told))

lister_may : (a : Asking) (m : listing.Phase) (answer : Answer) (refusal : Refusal) (f : Files) (p : Past) → lister.Shown m answer refusal
    → KnowsLister a m f p → schema_beside.IsTold refusal f p → MayRefuse f p refusal
lister_may a (listers.List s) (answers.Listed names) refusal f p is known told = memory_may refusal f p is
lister_may a (listers.Read r) (answers.Found None) refusal f p (id, next, is) known told = told_may refusal (refusals.Expired id) f p is (λ gone. gone) told
lister_may a (listers.Read r) (answers.Found (Some bytes)) refusal f p (id, next, inl is) known told = memory_may refusal f p is
lister_may a (listers.Read r) (answers.Found (Some bytes)) refusal f p (id, next, inr bad) known told =
    told_may refusal (refusals.Damaged (snapshot_path id) 0) f p bad.0 (λ damaged. absurd damaged) told
lister_may a (listers.Schema r) answer refusal f p shown known told = absurd known
lister_may a m answer refusal f p shown known told = absurd shown

lister_next : (a : Asking) (m : listing.Phase) (answer : Answer) (refusal : Refusal) (f : Files) (p : Past) → lister.Shown m answer refusal → Stands f p
    → KnowsLister a m f p → IfSome (lister.next_call m) (λ call. Answers call answer f → MayRefuse f p refusal)
lister_next a m answer refusal f p shown stands known =
    IfSome_then (lister.next_call m) (listing_causes.cause_at m answer refusal f p shown stands (lister_known a m f p known))
    (λ call cause told. lister_may a m answer refusal f p shown known (cause told))

consumers_next : (c : consuming.Phase) (next : Option Call) (answer : Answer) (refusal : Refusal) (f : Files) (p : Past) → consumers.next_call c ≡ next
    → consumers.Shown c answer refusal → Stands f p → IfSome next (λ call. Answers call answer f → MayRefuse f p refusal)
consumers_next c None answer refusal f p is shown stands = tt
consumers_next c (Some call) answer refusal f p is shown stands = λ told.
    memory_may refusal f p (consumers_causes.causes c call answer refusal f p stands is told shown)

pub cause_at : (m : Phase) (answer : Answer) (refusal : Refusal) (f : Files) (p : Past) → Shown m answer refusal → Stands f p → Knows m f p
    → IfSome (next_call m) (λ call. Answers call answer f → MayRefuse f p refusal)
cause_at (phases.Snapshots a m) answer refusal f p shown stands known = lister_next a m answer refusal f p shown stands known
cause_at (phases.Consumers l c) answer refusal f p shown stands known = consumers_next c (consumers.next_call c) answer refusal f p refl shown stands
cause_at (phases.Times l next) answer refusal f p (inl fails) stands known = memory_next (lister.next_call l.lister) answer refusal f p fails.0
cause_at (phases.Times l next) answer refusal f p (inr shown) stands known = lister_next l.asking l.lister answer refusal f p shown stands known
cause_at m answer refusal f p shown stands known = absurd shown

pub causes : (m : Phase) (call : Call) (answer : Answer) (refusal : Refusal) (f : Files) (p : Past) → Stands f p → Knows m f p
    → next_call m ≡ Some call → Answers call answer f → Shown m answer refusal → MayRefuse f p refusal
causes m call answer refusal f p stands known is told shown =
    at_call (next_call m) call (λ call. Answers call answer f → MayRefuse f p refusal) is (cause_at m answer refusal f p shown stands known) told

tells : (refusal : Refusal) (f : Files) (p : Past) → MayRefuse f p refusal → IsTold refusal f p
tells (refusals.StoreFault path) f p may = tt
tells other f p may = may

pub truthful : Truthful next_call IsReader (Refuses Shown phases.Over) Stands (λ m. IsKept) Knows IsTold
truthful = truthful_of_spared next_call IsReader Shown phases.Over Stands Knows IsTold spares
    (λ m call answer refusal f p held stands known is told shown. tells refusal f p (causes m call answer refusal f p stands known is told shown))
    (λ f p. tt) (λ path f p. tt)
