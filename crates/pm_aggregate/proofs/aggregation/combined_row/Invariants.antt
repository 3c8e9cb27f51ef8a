use Rattle.std.proofs.Common.{◌≡◌, ℕ, ◌<◌, drop, length, slice_get, Option, Some}
use Rattle.std.specs.Vec.Iter.{into_iter_items}
use Rattle.pm_model_history.specs.Merge.{value_at}
use Rattle.pm_aggregate.specs.Aggregation.{IsCombined}
use Rattle.pm_aggregate.specs.declared.column_function.ColumnFunction.{ColumnFunction}
use Rattle.pm_aggregate.proofs.aggregation.combined_row.Given as goal

-- the values so far, and those that are left
abbrev pub invariant-loop-function : goal.invariant-loop-function
invariant-loop-function l = record {
  size : length l.values.items ≡ l.function-index;
  older : into_iter_items l.older_left ≡ drop l.function-index l.fn.older;
  newer : into_iter_items l.newer_left ≡ drop l.function-index l.fn.newer;
  each : (i : ℕ) (f : Option ColumnFunction) → i < l.function-index → slice_get l.functions i ≡ Some f
      → IsCombined f (value_at l.fn.older i) (value_at l.fn.newer i) (value_at l.values.items i);
}
