-- When all that is asked for is printed.
use Rattle.std.specs.Prelude.{◌≡◌, ◌⊎◌, ℕ, ◌-◌, ◌≤◌, List, length, Bool, true, Option, None, Some}
use Rattle.pm_values.specs.declared.refusal.Refusal.{Refusal}
use Rattle.pm_values.specs.declared.refusal.Refusal.TheVariants as refusals
use Rattle.pm_io.specs.Sink.{SinkView}
use Rattle.pm_store.specs.Store.{StoreView}
use Rattle.pm_schema.specs.declared.schema.TableSchema.{TableSchema}
use Rattle.pm_model_history.specs.History.{Entry}
use Rattle.pm_command_follow.specs.Follow.{IsThere, MayStartAt, PrintsTable}
use Rattle.pm_command_follow.specs.Printed.{start_of}

-- The start isn't too high, for a table that tells its changes; and the snapshot of the starting table, if that is
-- asked for, and each from the start to the newest are there.
pub record MayPrintAll (s : TableSchema) (entries : List Entry) (from : Option ℕ) (full : Bool) (first : StoreView)
    : Type 0 where
  pub starts : MayStartAt s entries from
  pub base : full ≡ true → IsThere s (start_of from (length entries) - 1) first
  pub each : (id : ℕ) → start_of from (length entries) ≤ id → id ≤ length entries → IsThere s id first

-- all was printed, or memory ran out
abbrev pub PrintsAll : TableSchema → List Entry → Option ℕ → Bool → StoreView → SinkView → SinkView → Option Refusal
    → Type 0
PrintsAll s entries from full first before after answer = (answer ≡ Some refusals.Memory)
    ⊎ ((answer ≡ None) × PrintsTable s entries from full first before after)
