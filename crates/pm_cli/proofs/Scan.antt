-- The promise of `scan`.
use Rattle.std.proofs.Common.{◌≡◌, ℕ, List, length, Option, None, Some, Result, Ok, Err, inl, inr, subst, ◌∙◌}
use Rattle.std.specs.Result.{result_err}
use Rattle.pm_values.specs.declared.refusal.Refusal.{Refusal}
use Rattle.pm_values.specs.declared.refusal.Refusal.TheVariants as refusals
use Rattle.pm_io.specs.Sink.{SinkView}
use Rattle.pm_machine.specs.Trace.{Event}
use Rattle.pm_store.specs.Store.{StoreView, at_first_own}
use Rattle.pm_model_history.specs.History.{Entry, History, no_table, table, rows_up_to}
use Rattle.pm_model_history.specs.Merged.{scan_text}
use Rattle.pm_schema.specs.declared.schema.TableSchema.{TableSchema}
use Rattle.pm_model_folder.specs.Ledger.{count_of}
use Rattle.pm_scan.specs.AllCalls.{id_of}
use Rattle.pm_words.specs.declared.command.Command.TheVariants as commands
use Rattle.pm_command.specs.Outside.{Prints}
use Rattle.pm_command_scan.specs.Scan.{AnswersHistory, DidScan, IsThere, PrintsPrefix, PrintsTable, Scans, text_of}
use Rattle.pm_cli.specs.InTurn.{IsExecuted}
use Rattle.pm_cli.specs.Promise.{Execution, Keeps, HasMade, scans}
use Rattle.pm_cli.proofs.Common.{makes_nothing, none_made, sink_same, with_command}
use Rattle.pm_cli.proofs.Resting.{SameStarts, resting, unprinted}

-- the scan of the table
abbrev text_at : Option ℕ → TableSchema → List Entry → List ℕ
text_at at s es = scan_text s (rows_up_to es (id_of at (length es)))

-- no calls of a scan show a fault of the sink
not_shown : (at : Option ℕ) (own : List Event) (snapshot : Option ℕ) → DidScan at (Err (refusals.SinkFault snapshot)) own → ⊥
not_shown at own snapshot (inl shows) = shows
not_shown at own snapshot (inr (s, declared, (earlier, later, has, is, inl shows))) = shows
not_shown at own snapshot (inr (s, declared, (earlier, later, has, is, inr (v, shows)))) = shows.so

none_named : (at : Option ℕ) (made : Result (List ℕ) Refusal) (own : List Event) (before after : SinkView) (snapshot : Option ℕ) → DidScan at made own
    → Prints (text_of made) None (result_err made) before after (Some (refusals.SinkFault snapshot)) → snapshot ≡ None
none_named at (Ok text) own before after snapshot did says = sink_same snapshot None says.0
none_named at (Err e) own before after snapshot did says =
    absurd (not_shown at own snapshot (subst (λ (e : Refusal). DidScan at (Err e) own) (let same : e ≡ refusals.SinkFault snapshot = cc in same) did))

module _ (at : Option ℕ) (e : Execution) where
  served : (h : History) (first : StoreView) → IsThere h (id_of at (count_of h)) first → PrintsTable h at e.before.out e.after.out
      → HasMade (with_command (commands.Scan at) e) h None h
  served no_table first there prints = absurd prints
  served (table s es) first there prints = (text_at at s es, scans at s es there.0, prints)

  in_part : (h : History) (first : StoreView) (snapshot : Option ℕ) → snapshot ≡ None → IsThere h (id_of at (count_of h)) first
      → PrintsPrefix h at e.before.out e.after.out → HasMade (with_command (commands.Scan at) e) h (Some (refusals.SinkFault snapshot)) h
  in_part no_table first snapshot none there prints = absurd prints
  in_part (table s es) first snapshot none there prints = (text_at at s es, scans at s es there.0, prints, none ∙ none_made (table s es))

  makes : (h : History) (first : StoreView) (answer : Option Refusal) → Scans at e.before e.after answer
      → AnswersHistory h at first e.before e.after answer → HasMade (with_command (commands.Scan at) e) h answer h
  makes h first None acts (there, prints) = served h first there prints
  makes h first (Some (refusals.SinkFault snapshot)) (made, (own, did, traces), beside, says) (failed, there, prints) =
      in_part h first snapshot (none_named at made own e.before.out e.after.out snapshot did says) there prints
  makes h first (Some refusal) (made, trace, beside, prints) may =
      makes_nothing (with_command (commands.Scan at) e) h refusal tt (unprinted (text_of made) (result_err made) e.before.out e.after.out refusal tt prints)

pub keeps : SameStarts → (at : Option ℕ) (e : Execution) → IsExecuted (with_command (commands.Scan at) e) → Keeps (with_command (commands.Scan at) e)
keeps law at e is = λ alone h stands input.
    let first = at_first_own e.before.store e.after.store in
    let was = is.history alone h stands in
    resting law (with_command (commands.Scan at) e) h first (makes at e h first e.refusal is.acts was.answers) was.rests was.images (λ f. (tt, tt))
