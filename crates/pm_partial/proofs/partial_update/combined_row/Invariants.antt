use Rattle.std.proofs.Common.{◌≡◌, ℕ, ◌<◌, drop, length, slice_get, Some}
use Rattle.std.specs.Vec.Iter.{into_iter_items}
use Rattle.pm_model_history.specs.Merge.{value_at}
use Rattle.pm_partial.specs.PartialUpdate.{IsFrom}
use Rattle.pm_partial.specs.declared.update.Side.{Side}
use Rattle.pm_partial.proofs.partial_update.combined_row.Given as goal

-- the values so far, and those that are left
abbrev pub invariant-loop-side : goal.invariant-loop-side
invariant-loop-side l = record {
  size : length l.values.items ≡ l.side-index;
  older : into_iter_items l.older_left ≡ drop l.side-index l.fn.older;
  newer : into_iter_items l.newer_left ≡ drop l.side-index l.fn.newer;
  each : (i : ℕ) (p : Side) → i < l.side-index → slice_get l.side-items i ≡ Some p
      → IsFrom p (value_at l.fn.older i) (value_at l.fn.newer i) (value_at l.values.items i);
}
