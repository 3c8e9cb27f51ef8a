use Rattle.std.proofs.Common.{◌≡◌, ℕ, ◌<◌, drop, length, map, slice_get, Some}
use Rattle.std.specs.Vec.Iter.{into_iter_items}
use Rattle.pm_model_history.specs.ColumnValue.{is_null}
use Rattle.pm_model_history.specs.Merge.{value_at}
use Rattle.pm_partial.specs.PartialUpdate.{IsLifted}
use Rattle.pm_partial.specs.declared.update.Update.{Update}
use Rattle.pm_partial.proofs.partial_update.lifted_row.Given as goal

-- the values so far, and those that are left
abbrev pub invariant-loop-index : goal.invariant-loop-index
invariant-loop-index l = record {
  size : length l.values.items ≡ l.index;
  rest : into_iter_items l.left ≡ drop l.index l.fn.row;
  each : (i : ℕ) (u : Update) → i < l.index → slice_get l.updates i ≡ Some u
      → IsLifted u l.kind (map is_null l.fn.row) i (value_at l.fn.row i) (value_at l.values.items i);
}
