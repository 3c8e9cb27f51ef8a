-- Which refusals a folder that stands can show a reader, and that its paths are those that the snapshot named.
use Rattle.std.proofs.Common.{◌≡◌, ◌↔◌, inl, inr, ℕ, List, Contains, Some, refl, sym, subst}
use Rattle.pm_values.specs.declared.refusal.Refusal.{Refusal}
use Rattle.pm_values.specs.declared.refusal.Refusal.TheVariants as refusals
use Rattle.pm_store.specs.Answers.{Answers}
use Rattle.pm_store.specs.Files.{Files}
use Rattle.pm_store.specs.declared.answer.Answer.{Answer}
use Rattle.pm_store.specs.declared.call.Call.{Call}
use Rattle.pm_machine.specs.Moves.{IsKept, Truthful}
use Rattle.pm_machine.specs.Running.{Refuses}
use Rattle.pm_machine.proofs.PhaseFacts.{truthful_of_spared}
use Rattle.pm_model_folder.specs.Commits.{Names}
use Rattle.pm_model_folder.specs.Ledger.{Past, Stands}
use Rattle.pm_read_schema.specs.Beside.{IsTold}
use Rattle.pm_read_table.specs.Asked.{KeepsEntries}
use Rattle.pm_read_log.specs.LogMeaning as log_meaning
use Rattle.pm_read_log.specs.LogMeaning.{IsLogIn}
use Rattle.pm_read_log.specs.LogReader as log
use Rattle.pm_read_table.specs.Meaning as reader_meaning
use Rattle.pm_read_table.specs.Meaning.{IsViewIn}
use Rattle.pm_read_table.specs.Named.{named_paths, parts_of}
use Rattle.pm_read_table.specs.Reader as reader
use Rattle.pm_read_log.specs.declared.log.Log.{Log}
use Rattle.pm_read_log.specs.declared.log_phase.LogPhase.{LogPhase}
use Rattle.pm_read_table.specs.declared.phase.Phase as view_phase
use Rattle.pm_read_table.specs.declared.view.View.{View}
use Rattle.pm_read_table.proofs.Facts.{listing_only}
use Rattle.pm_read_log.proofs.LogFacts.{never_above}
use Rattle.pm_read_whole.specs.Meaning.{AreNamed, Knows, MayRefuse}
use Rattle.pm_read_whole.specs.Whole.{next_call, paths_of, IsReady, IsWhole, IsWholeOf, Shown}
use Rattle.pm_read_whole.specs.declared.phase.Phase.{Phase}
use Rattle.pm_read_whole.specs.declared.phase.Phase.TheVariants as phases
use Rattle.pm_read_whole.proofs.Facts.{spares}

-- what the laws of causes of the two parts say
abbrev pub ViewCauses : Type 0
ViewCauses = (m : view_phase.Phase) (call : Call) (answer : Answer) (refusal : Refusal) (f : Files) (p : Past) → Stands f p → reader_meaning.Knows m f p
    → reader.next_call m ≡ Some call → Answers call answer f → reader.Shown m answer refusal → reader_meaning.MayRefuse f p refusal

abbrev pub LogCauses : Type 0
LogCauses = (m : LogPhase) (call : Call) (answer : Answer) (refusal : Refusal) (f : Files) (p : Past) → Stands f p → log_meaning.Knows m f p
    → log.next_call m ≡ Some call → Answers call answer f → log.Shown m answer refusal → reader_meaning.MayRefuse f p refusal

-- where it isn't that the snapshot is above the latest
not_above : (f : Files) (p : Past) (refusal : Refusal) → reader_meaning.MayRefuse f p refusal → ((id latest : ℕ) → refusal ≡ refusals.NoSnapshot id latest → ⊥)
    → MayRefuse f p refusal
not_above f p refusals.Memory may never = tt
not_above f p (refusals.Expired id) may never = may
not_above f p (refusals.NoSnapshot id latest) may never = absurd (never id latest refl)
not_above f p other may never = absurd may

never_listed : (r : view_phase.Phase) (answer : Answer) (refusal : Refusal) (id latest : ℕ) → IsWholeOf r → reader.Shown r answer refusal
    → refusal ≡ refusals.NoSnapshot id latest → ⊥
never_listed r answer refusal id latest whole shown is =
    let listing = listing_only r answer refusal id latest shown is in
    subst IsWholeOf listing.1 whole

pub causes : ViewCauses → LogCauses → (m : Phase) (call : Call) (answer : Answer) (refusal : Refusal) (f : Files) (p : Past) → Stands f p → IsWhole m → Knows m f p
    → next_call m ≡ Some call → Answers call answer f → Shown m answer refusal → MayRefuse f p refusal
causes views logs (phases.View r) call answer refusal f p stands whole known at told (inl (is, v, viewed, goes)) = subst (MayRefuse f p) (sym is) tt
causes views logs (phases.View r) call answer refusal f p stands whole known at told (inr shown) =
    not_above f p refusal (views r call answer refusal f p stands known at told shown)
    (λ id latest is. never_listed r answer refusal id latest whole.1 shown is)
causes views logs (phases.Log v r) call answer refusal f p stands whole (viewed, known) at told shown =
    not_above f p refusal (logs r call answer refusal f p stands known at told shown)
    (λ id latest is. never_above r answer refusal id latest shown is)
causes views logs m call answer refusal f p stands whole known at told shown = absurd shown

-- what a refusal tells
pub may_tell : (refusal : Refusal) (f : Files) (p : Past) → MayRefuse f p refusal → IsTold refusal f p
may_tell refusals.Memory f p may = tt
may_tell (refusals.Expired id) f p may = may
may_tell other f p may = absurd may

pub truthful : ViewCauses → LogCauses → Truthful next_call IsWhole (Refuses Shown phases.Over) Stands (λ m. IsKept) Knows IsTold
truthful views logs = truthful_of_spared next_call IsWhole Shown phases.Over Stands Knows IsTold spares
    (λ m call answer refusal f p held stands known is told shown.
    may_tell refusal f p (causes views logs m call answer refusal f p stands held known is told shown))
    (λ f p. tt) (λ path f p. tt)

-- what the law of whole views says
abbrev pub WholeNamed : Type 0
WholeNamed = (p : Past) (v : View) (l : Log) (path : List ℕ) → IsViewIn p v → IsLogIn p l → KeepsEntries v.wanted → v.snapshot ≡ Some l.snapshot → v.schema ≡ l.schema
    → Contains (named_paths l.schema l.snapshot (parts_of v.manifests.items v.live.items l.manifests.items l.changes.items)) path
    ↔ Names (p.stood l.snapshot.id) l.schema l.snapshot.id path

pub are_named : WholeNamed → (m : Phase) (f : Files) (p : Past) → IsReady m → IsWhole m → Knows m f p → AreNamed p m (paths_of m)
are_named law (phases.Ready v l) f p ready (schema, snapshot, whole, groups, changes) (viewed, logged) = λ path.
    law p v l path viewed.1 logged (subst KeepsEntries (sym whole.wanted) tt) snapshot schema
are_named law m f p ready whole known = absurd ready
