-- The promise of `follow`.
use Rattle.std.proofs.Common.{◌≡◌, ℕ, suc, ◌≤◌, ◌⊎◌, Bool, false, List, length, Option, None, Some, inl, inr, ◌∙◌}
use Rattle.std.specs.Option.{option_or}
use Rattle.pm_values.specs.declared.refusal.Refusal.{Refusal}
use Rattle.pm_values.specs.declared.refusal.Refusal.TheVariants as refusals
use Rattle.pm_schema.specs.declared.schema.TableSchema.{TableSchema}
use Rattle.pm_store.specs.Files.{Files}
use Rattle.pm_store.specs.Store.{StoreView, at_first_own}
use Rattle.pm_model_history.specs.History.{Entry, History, no_table, table}
use Rattle.pm_model_folder.specs.Folder.{Folder, HasTable}
use Rattle.pm_create.specs.Making.{LeavesFiles}
use Rattle.pm_words.specs.declared.command.Command.TheVariants as commands
use Rattle.pm_command_consume.specs.Alone.{full_after, settled_at, start_after}
use Rattle.pm_command_follow.specs.Follow.{AnswersHistory, MayRefuse, MayStartAt, Prints, PrintsPrefix, PrintsSome, StopsAfter}
use Rattle.pm_command_follow.specs.Printed.{LeadFrom, follow_text, start_of}
use Rattle.pm_command.specs.declared.start.Start.{Start}
use Rattle.pm_cli.specs.InTurn.{IsExecuted}
use Rattle.pm_cli.specs.Promise.{Does, Execution, Keeps, HasMade, consumes, follows}
use Rattle.pm_cli.specs.Start.{consumed_text}
use Rattle.pm_cli.proofs.Common.{makes_nothing, none_made, with_command}
use Rattle.pm_cli.proofs.Resting.{SameStarts, resting}

module _ (from : Option ℕ) (full : Bool) (e : Execution) where
  abbrev it : Execution
  it = with_command (commands.Follow from None full) e

  served : (h : History) (first : StoreView) → Prints h from full first e.before.out e.after.out → HasMade it h None h
  served no_table first prints = absurd prints
  served (table s es) first prints = (follow_text s es from full, follows from full s es prints.starts, prints.taken)

  in_part : (h : History) (first : StoreView) (snapshot : Option ℕ) → snapshot ≡ None → PrintsPrefix h from full first e.before.out e.after.out
      → HasMade it h (Some (refusals.SinkFault snapshot)) h
  in_part no_table first snapshot none prints = absurd prints
  in_part (table s es) first snapshot none (may, took, part) = (follow_text s es from full, follows from full s es may, took, none ∙ none_made (table s es))

  -- before a refusal nothing was printed, or the first pieces were
  printed : (h : History) (first : StoreView) (refusal : Refusal)
      → (MayRefuse h from full first e.after.store refusal × (e.after.out ≡ e.before.out)) ⊎ StopsAfter h from full first e.after.store e.before.out e.after.out refusal
      → PrintsSome h from full e.before.out e.after.out
  printed no_table first refusal (inl (may, same)) = same
  printed no_table first refusal (inr stops) = absurd stops
  printed (table s es) first refusal (inl (may, same)) = inl same
  printed (table s es) first refusal (inr (count, took, there, may)) = inr (count, took)

  makes : (h : History) (first : StoreView) (answer : Option Refusal) → AnswersHistory h from full first e.after.store e.before.out e.after.out answer
      → HasMade it h answer h
  makes h first None prints = served h first prints
  makes h first (Some (refusals.SinkFault snapshot)) (none, failed, prints) = in_part h first snapshot none prints
  makes h first (Some refusal) why = makes_nothing it h refusal tt (printed h first refusal why)

pub keeps : SameStarts → (from : Option ℕ) (full : Bool) (e : Execution) → IsExecuted (with_command (commands.Follow from None full) e)
    → Keeps (with_command (commands.Follow from None full) e)
keeps law from full e is = λ alone h stands input.
    let first = at_first_own e.before.store e.after.store in
    let was = is.history alone h stands in
    resting law (with_command (commands.Follow from None full) e) h first (makes from full e h first e.refusal was.answers) was.rests was.images (λ f. (tt, tt))

-- ---- what was printed, replayed

-- what the law says of all that is printed
abbrev pub PrintedLaw : Type 0
PrintedLaw = (f : Files) (s : TableSchema) (es : List Entry) (from : Option ℕ) (full : Bool) → HasTable f s es → MayStartAt s es from
    → 1 ≤ start_of from (length es) → LeadFrom s es from full (follow_text s es from full)

pub replayed : PrintedLaw → (start : Start) (bytes : List ℕ) (found : StoreView) (from : Option ℕ) (full : Bool) (s : TableSchema) (es : List Entry) (later : History)
    (text : List ℕ) (f : Files) → 1 ≤ start_of from (length es) → Folder f (table s es)
    → Does start bytes found (commands.Follow from None full) (table s es) later text → LeadFrom s es from full text
replayed law start bytes found from full s es later text f low folder (follows at with_table t entries may) = law f s es from full folder may low

-- and with a consumer
pub consumed : PrintedLaw → (start : Start) (bytes : List ℕ) (found : StoreView) (name : List ℕ) (from : Option ℕ) (full : Bool) (s : TableSchema) (es : List Entry)
    (later : History) (text : List ℕ) (f : Files) → Folder f (table s es) → Does start bytes found (commands.Follow from (Some name) full) (table s es) later text
    → (known : Option ℕ) × LeavesFiles (λ was. settled_at was name ≡ known) found
    × (1 ≤ start_after known from (length es) → start_after known from (length es) ≤ suc (length es) → LeadFrom s es (option_or known from) (full_after known full) text)
consumed law start bytes found name from full s es later text f folder (consumes who at known with_table t entries is tells may) =
    (known, is, by known)
  where
    by : (known : Option ℕ) → 1 ≤ start_after known at (length entries) → start_after known at (length entries) ≤ suc (length entries)
        → LeadFrom t entries (option_or known at) (full_after known with_table) (consumed_text t entries known at with_table)
    by None low high = law f t entries at with_table folder (tells, high) low
    by (Some next) low high = law f t entries (Some next) false folder (tells, high) low
