use Rattle.std.proofs.Common.{◌≡◌, ◌≤◌, drop, length}
use Rattle.std.specs.FinMap.{entries, from_entries}
use Rattle.std.specs.List.{filter_map}
use Rattle.pm_values.specs.Order.{key_cmp}
use Rattle.pm_model_history.specs.Merged.{merged_entry}
use Rattle.pm_reference.proofs.table.merged_rows.Given as goal

-- the entries of the rows from the index on
abbrev pub invariant-loop-index : goal.invariant-loop-index
invariant-loop-index l = record {
  within : l.index ≤ length l.rows;
  table : l.table.entries ≡ entries (from_entries {R = key_cmp} (filter_map (merged_entry l.schema l.rows) (drop l.index l.rows)));
}

-- how many rows are left
abbrev pub decreases-loop-index : goal.decreases-loop-index
decreases-loop-index l = l.index
