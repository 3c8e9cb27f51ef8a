-- The promise of `consumers`.
use Rattle.std.proofs.Common.{◌≡◌, ◌≢◌, ℕ, List, Option, None, Some, Ok, Err, inl, inr, refl, subst, ◌∙◌}
use Rattle.std.specs.Result.{result_err}
use Rattle.pm_values.specs.declared.refusal.Refusal.{Refusal}
use Rattle.pm_values.specs.declared.refusal.Refusal.TheVariants as refusals
use Rattle.pm_io.specs.Sink.{SinkView}
use Rattle.pm_machine.specs.Trace.{Event}
use Rattle.pm_model_history.specs.History.{History, no_table, table}
use Rattle.pm_consumer_files.specs.Lines.{consumers_text}
use Rattle.pm_consumer_files.specs.declared.lines.NamedConsumer.{NamedConsumer}
use Rattle.pm_create.specs.Making.{LeavesFiles}
use Rattle.pm_consumers.specs.AllCalls.{AreConsumersOf, Listing}
use Rattle.pm_words.specs.declared.command.Command.TheVariants as commands
use Rattle.pm_command.specs.Outside.{Prints}
use Rattle.pm_command_consumers.specs.Consumers.{AnswersHistory, DidConsumers, ListsConsumers, text_of}
use Rattle.pm_cli.specs.InTurn.{IsExecuted}
use Rattle.pm_cli.specs.Promise.{Does, Execution, Keeps, HasMade, found_by, lists_consumers}
use Rattle.pm_cli.proofs.Common.{makes_nothing, none_made, sink_same, with_command}
use Rattle.pm_cli.proofs.Resting.{SameStarts, resting, unprinted}

does : (e : Execution) (h : History) (consumers : List NamedConsumer) → h ≢ no_table → LeavesFiles (λ f. AreConsumersOf f consumers) (found_by e)
    → Does e.start e.input (found_by e) (commands.Consumers None) h h (consumers_text consumers)
does e no_table consumers some are = absurd (some refl)
does e (table s es) consumers some are = lists_consumers s es consumers are

-- no calls of a listing show a fault of the sink
not_shown : (own : List Event) (snapshot : Option ℕ) → DidConsumers (Err (refusals.SinkFault snapshot)) own → ⊥
not_shown own snapshot (inl shows) = shows
not_shown own snapshot (inr (s, earlier, later, declared, has, inl shows, at)) = shows
not_shown own snapshot (inr (s, earlier, later, declared, has, inr (memory, consumers, listed), at)) = let no : refusals.SinkFault snapshot ≡ refusals.Memory = memory in cc

none_named : (made : Listing) (own : List Event) (before after : SinkView) (snapshot : Option ℕ) → DidConsumers made own
    → Prints (text_of made) None (result_err made) before after (Some (refusals.SinkFault snapshot)) → snapshot ≡ None
none_named (Ok consumers) own before after snapshot did says = sink_same snapshot None says.0
none_named (Err e) own before after snapshot did says =
    absurd (not_shown own snapshot (subst (λ (e : Refusal). DidConsumers (Err e) own) (let same : e ≡ refusals.SinkFault snapshot = cc in same) did))

makes : (e : Execution) (h : History) (answer : Option Refusal) → ListsConsumers e.before e.after answer → AnswersHistory h (found_by e) e.before e.after answer
    → HasMade (with_command (commands.Consumers None) e) h answer h
makes e h None acts (some, (consumers, are, taken)) = (consumers_text consumers, does e h consumers some are, taken)
makes e h (Some (refusals.SinkFault snapshot)) (made, (own, did, traces), beside, says) (failed, some, (consumers, are, taken)) =
    let none = none_named made own e.before.out e.after.out snapshot did says in
    (consumers_text consumers, does e h consumers some are, taken, none ∙ none_made h)
makes e h (Some refusal) (made, trace, beside, prints) may =
    makes_nothing (with_command (commands.Consumers None) e) h refusal tt (unprinted (text_of made) (result_err made) e.before.out e.after.out refusal tt prints)

pub keeps : SameStarts → (e : Execution) → IsExecuted (with_command (commands.Consumers None) e) → Keeps (with_command (commands.Consumers None) e)
keeps law e is = λ alone h stands input.
    let was = is.history alone h stands in
    resting law (with_command (commands.Consumers None) e) h (found_by e) (makes e h e.refusal is.acts was.answers) was.rests was.images (λ f. (tt, tt))
