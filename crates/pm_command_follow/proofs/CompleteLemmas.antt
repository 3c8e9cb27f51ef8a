-- When all that is asked for is printed.
use Rattle.std.proofs.Common.{◌≡◌, ◌⊎◌, inl, inr, ℕ, suc, ◌+◌, ◌<◌, ◌≤◌, Bool, List, length, Option, None, Some, IsSome, IsSomeAnd, refl, sym, ap, subst, ◌∙◌, arith}
use Rattle.std.specs.FinMap as map
use Rattle.pm_base.specs.Faults.{Rose}
use Rattle.pm_values.specs.declared.refusal.Refusal.{Refusal}
use Rattle.pm_values.specs.declared.refusal.Refusal.TheVariants as refusals
use Rattle.pm_io.specs.Sink.{SinkFailed, SinkView}
use Rattle.pm_store.specs.Files.{files_after}
use Rattle.pm_store.specs.Store.{StoreView}
use Rattle.pm_store.specs.declared.call.Op.{Op}
use Rattle.pm_schema.specs.declared.schema.TableSchema.{TableSchema}
use Rattle.pm_model_history.specs.History.{Entry, table}
use Rattle.pm_scan.specs.AllCalls.{path_of}
use Rattle.pm_command_follow.specs.Complete.{MayPrintAll, PrintsAll}
use Rattle.pm_command_follow.specs.Follow.{AnswersHistory, HasGone, IsThere, MayRefuse, MayStop, StopsAfter}
use Rattle.pm_command_follow.specs.Printed.{start_of}

clash : (ops : Option (List Op)) (path : List ℕ) → IsSomeAnd ops (λ ops. IsSome (map.get (files_after ops) path))
    → IsSomeAnd ops (λ ops. map.get (files_after ops) path ≡ None) → ⊥
clash None path there gone = there
clash (Some ops) path there gone = let some = subst IsSome gone there in cc

not_gone : (s : TableSchema) (es : List Entry) (id : ℕ) (first : StoreView) → IsThere s id first → HasGone (table s es) id first → ⊥
not_gone s es id first there (t, is, gone) =
    clash first.ops (path_of t id) (subst (λ (t : TableSchema). IsThere t id first) is there) gone

too_high : (from : Option ℕ) (id newest latest : ℕ) → start_of from newest ≤ suc newest → from ≡ Some id → latest ≡ newest → suc latest < id → ⊥
too_high None id newest latest high is same above = cc
too_high (Some at) id newest latest high is same above =
    let asked : at ≡ id = ap (λ (from : Option ℕ). start_of from 0) is in
    omega (arith, high, asked, same, above)

module _ (s : TableSchema) (es : List Entry) (from : Option ℕ) (full : Bool) (first last : StoreView) (may : MayPrintAll s es from full first)
    (quiet : Rose first.faults last.faults → ⊥) where
  at_first : (e : Refusal) → MayRefuse (table s es) from full first last e → e ≡ refusals.Memory
  at_first refusals.Memory why = refl
  at_first (refusals.StoreFault path) why = absurd (quiet why)
  at_first refusals.NoTable why = absurd (let none = why in cc)
  at_first refusals.NoChangelog (t, is, none) = absurd (may.starts.0 (ap (λ (t : TableSchema). t.options.producer) is ∙ none))
  at_first (refusals.NoSnapshot id latest) (has, asked, newest, above) = absurd (too_high from id (length es) latest may.starts.1 asked newest above)
  at_first (refusals.Expired id) (has, asked, is, within, gone) =
      absurd (not_gone s es id first (subst (λ (id : ℕ). IsThere s id first) (sym is) (may.base asked)) gone)
  at_first other why = absurd why

  behind : (count : ℕ) (e : Refusal) → MayStop (table s es) (start_of from (length es) + count) first last e → e ≡ refusals.Memory
  behind count refusals.Memory why = refl
  behind count (refusals.StoreFault path) why = absurd (quiet why)
  behind count (refusals.Expired id) (is, within, gone) =
      let low : start_of from (length es) ≤ start_of from (length es) + count = omega arith in
      absurd (not_gone s es (start_of from (length es) + count) first (may.each (start_of from (length es) + count) low within) gone)
  behind count other why = absurd why

  refused : (before after : SinkView) (e : Refusal)
      → (MayRefuse (table s es) from full first last e × (after ≡ before)) ⊎ StopsAfter (table s es) from full first last before after e → e ≡ refusals.Memory
  refused before after e (inl (why, same)) = at_first e why
  refused before after e (inr (count, took, there, why)) = behind count e why

  pub all_printed : (before after : SinkView) (answer : Option Refusal) → (SinkFailed before after → ⊥)
      → AnswersHistory (table s es) from full first last before after answer → PrintsAll s es from full first before after answer
  all_printed before after None whole prints = inr (refl, prints)
  all_printed before after (Some (refusals.SinkFault snapshot)) whole (none, failed, prints) = absurd (whole failed)
  all_printed before after (Some e) whole why = inl (ap Some (refused before after e why))
