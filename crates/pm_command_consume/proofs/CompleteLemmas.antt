-- When all is handed out.
use Rattle.std.proofs.Common.{◌≡◌, inl, inr, ℕ, true, Option, None, Some, refl, sym, ap, subst, ◌∙◌, arith}
use Rattle.std.specs.FinMap as map
use Rattle.pm_base.specs.Faults.{Rose}
use Rattle.pm_values.specs.declared.refusal.Refusal.{Refusal}
use Rattle.pm_values.specs.declared.refusal.Refusal.TheVariants as refusals
use Rattle.pm_io.specs.Sink.{SinkFailed, SinkView}
use Rattle.pm_store.specs.Store.{StoreView}
use Rattle.pm_model_folder.proofs.Facts.{some-none}
use Rattle.pm_scan.specs.AllCalls.{path_of}
use Rattle.pm_command_consume.specs.Alone.{AnswersTable, Beginning, HasGone, IsThere, Refuses, Stops, breaks_off, full_after, newest_of, prints, refuses, start_after, start_at, stops}
use Rattle.pm_command_consume.specs.Complete.{MayHandOutAll, PrintsAll}
use Rattle.pm_command_consume.specs.declared.consuming.Consuming.{Consuming}

there_gone : (b : Beginning) (id : ℕ) → IsThere b id → HasGone b id → ⊥
there_gone b id there gone = some-none (map.get b.files (path_of b.schema id)) there gone

is_memory : (e : Refusal) → e ≡ refusals.Memory → Some e ≡ Some refusals.Memory
is_memory e is = ap Some is

module _ (c : Consuming) (b : Beginning) (first last : StoreView) (before after : SinkView)
    (may : MayHandOutAll c b) (store : Rose first.faults last.faults → ⊥) where
  refused : (e : Refusal) → Refuses c b first last e → e ≡ refusals.Memory
  refused refusals.Memory why = refl
  refused (refusals.StoreFault path) why = absurd (store why.0)
  refused refusals.NoChangelog why = absurd (may.joined.0.0 why.0)
  refused (refusals.NoSnapshot id latest) (followed, none, asked, newest, above, left) =
      let start_is : start_at c b ≡ id =
      ap (λ (known : Option ℕ). start_after known c.from (newest_of b)) none ∙ ap (λ (from : Option ℕ). start_after None from (newest_of b)) asked in
      let high = (may.joined.1 none).0 in
      absurd (omega (arith, start_is, newest, above, high))
  refused (refusals.BelowFloor next floor) (followed, none, is, high, most, left) =
      let below = (may.joined.1 none).1 floor most.is in
      let exceeds = most.exceeds in
      absurd (omega (arith, below, exceeds, is))
  refused (refusals.Expired id) (joined, none, asked, is, gone, left) =
      let full : full_after b.known c.full ≡ true = ap (λ (known : Option ℕ). full_after known c.full) none ∙ asked in
      absurd (there_gone b id (subst (IsThere b) (sym is) (may.base full)) gone)
  refused e why = absurd why

  stopped : (e : Refusal) (count : ℕ) → Stops c b count first last e → e ≡ refusals.Memory
  stopped refusals.Memory count why = refl
  stopped (refusals.StoreFault path) count why = absurd (store why.0)
  stopped (refusals.Expired id) count (is, within, gone, known, apart, left) =
      absurd (there_gone b id (may.each id (omega (arith, is)) (omega (arith, is, within))) gone)
  stopped e count why = absurd why

  pub completes : (answer : Option Refusal) → AnswersTable c b first last before after answer → (SinkFailed before after → ⊥) → PrintsAll c b before after answer
  completes answer (prints frames left joined images) sink = inr (refl, frames)
  completes answer (breaks_off count broke failed images) sink = absurd (sink failed)
  completes answer (refuses e why same images) sink = inl (is_memory e (refused e why))
  completes answer (stops e count frames why images) sink = inl (is_memory e (stopped e count why))
