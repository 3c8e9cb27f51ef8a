-- Aggregation: which schemas it can serve, and, private, how a stored row is made.
use Rattle.std.specs.Prelude.{◌≡◌, ℕ, List, [], ◌∷◌, ◌++◌, length, true, Option, Some, None, slice_get}
use Rattle.pm_options.specs.Pairs.{first_ignored}
use Rattle.pm_schema.specs.Rules.{may_be_null}
use Rattle.pm_schema.specs.declared.schema.TableSchema.{TableSchema}
use Rattle.pm_values.specs.Kind.{retracts}
use Rattle.pm_values.specs.Order.{Values}
use Rattle.pm_values.specs.declared.kind.Kind.{Kind}
use Rattle.pm_values.specs.declared.value.Value.{Value}
use Rattle.pm_model_history.specs.Merge.{value_at}
use Rattle.pm_aggregate.specs.Column.{Cell, IsOfType, SpeaksForCells}
use Rattle.pm_aggregate.specs.ColumnFunction.{meaning_of}
use Rattle.pm_aggregate.specs.declared.column_function.ColumnFunction.{ColumnFunction}

-- The schema's columns can be aggregated: those outside the key are nullable, and none skips the rows that retract
-- whose function takes the first or the last value. Each schema that a file or a draft declares is so.
pub record CanAggregate (s : TableSchema) : Type 0 where
  pub nullable : may_be_null s ≡ true
  pub skips : first_ignored s.options.functions s.options.ignore_retract ≡ None

-- Private: a function takes the rows, by whether they retract
abbrev pub Takes : Kind → Option ColumnFunction → Type 0
Takes kind None = Unit {0}
Takes kind (Some f) = (meaning_of f).takes (retracts kind) ≡ true

-- Private: a value of a row became a stored one; in a column of the key it is the same
abbrev pub IsLifted : Kind → Option ColumnFunction → Value → Value → Type 0
IsLifted kind None value stored = stored ≡ value
IsLifted kind (Some f) value stored =
    IsOfType (meaning_of f).kind value → SpeaksForCells (meaning_of f) stored ((kind, value) ∷ [])

-- Private: two stored values became one; in a column of the key it is the newer
abbrev pub IsCombined : Option ColumnFunction → Value → Value → Value → Type 0
IsCombined None older newer stored = stored ≡ newer
IsCombined (Some f) older newer stored =
    (before after : List Cell) → SpeaksForCells (meaning_of f) older before
    → SpeaksForCells (meaning_of f) newer after → SpeaksForCells (meaning_of f) stored (before ++ after)

-- Private: a row was made, one value for each column
pub record AreLifted (functions : List (Option ColumnFunction)) (kind : Kind) (row stored : Values) : Type 0 where
  pub size : length stored ≡ length functions
  pub each : (i : ℕ) (f : Option ColumnFunction) → slice_get functions i ≡ Some f
      → IsLifted kind f (value_at row i) (value_at stored i)

-- Private: two stored rows became one
pub record AreCombined (functions : List (Option ColumnFunction)) (older newer stored : Values) : Type 0 where
  pub size : length stored ≡ length functions
  pub each : (i : ℕ) (f : Option ColumnFunction) → slice_get functions i ≡ Some f
      → IsCombined f (value_at older i) (value_at newer i) (value_at stored i)
