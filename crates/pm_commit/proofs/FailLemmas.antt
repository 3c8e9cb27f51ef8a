-- Calls of which the last one failed.
use Rattle.std.proofs.Common.{◌≡◌, inl, inr, ℕ, List, [], ◌∷◌, ◌++◌, sym, ap, ◌∙◌, append_assoc}
use Rattle.pm_values.specs.declared.refusal.Refusal.TheVariants as refusals
use Rattle.pm_store.specs.declared.call.Call.{Call}
use Rattle.pm_machine.specs.Trace.{Event, faulted}
use Rattle.pm_schema.specs.declared.schema.TableSchema.{TableSchema}
use Rattle.pm_commit.specs.Own.{OwnView}
use Rattle.pm_commit.specs.Trace.{Shows}

abbrev pub FailsLast : List Event → Type 0
FailsLast own = (earlier : List Event) × (call : Call) × (own ≡ earlier ++ faulted call ∷ [])

pub after-failed : (earlier later own : List Event) → own ≡ earlier ++ later → FailsLast later → FailsLast own
after-failed earlier later own is (before, call, last) =
    (earlier ++ before, call, is ∙ ap (λ (own : List Event). earlier ++ own) last ∙ sym (append_assoc earlier before (faulted call ∷ [])))

pub shows-failed : (s : TableSchema) (first : OwnView) (path : List ℕ) (own : List Event) → Shows s first (refusals.StoreFault path) own → FailsLast own
shows-failed s first path own (inl (o, earlier, later, lost, shows, is)) = after-failed earlier later own is (shows.earlier, shows.call, shows.is)
shows-failed s first path own (inr failed) = (failed.earlier, failed.call, failed.is)
