use Rattle.std.proofs.Common.{◌≡◌, ℕ, ◌<◌, drop, length, slice_get, Option, Some}
use Rattle.std.specs.Vec.Iter.{into_iter_items}
use Rattle.pm_model_history.specs.Merge.{value_at}
use Rattle.pm_aggregate.specs.Aggregation.{IsLifted}
use Rattle.pm_aggregate.specs.declared.column_function.ColumnFunction.{ColumnFunction}
use Rattle.pm_aggregate.proofs.aggregation.lifted_row.Given as goal

-- the values so far, and those that are left
abbrev pub invariant-loop-function : goal.invariant-loop-function
invariant-loop-function l = record {
  size : length l.values.items ≡ l.function-index;
  rest : into_iter_items l.left ≡ drop l.function-index l.fn.row;
  each : (i : ℕ) (f : Option ColumnFunction) → i < l.function-index → slice_get l.functions i ≡ Some f → IsLifted l.kind f (value_at l.fn.row i) (value_at l.values.items i);
}
