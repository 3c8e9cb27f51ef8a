use Rattle.std.proofs.Common.{◌≡◌, ◌++◌, ◌-◌, map}
use Rattle.std.specs.List.{range_with_len}
use Rattle.pm_model_history.specs.ColumnValue.{column_value}
use Rattle.pm_reference.proofs.table.values_of.Given as goal

-- the values so far, and those that are left
abbrev pub invariant-loop-index : goal.invariant-loop-index
invariant-loop-index l = l.values.items ++ map (λ index. column_value l.schema index l.rows) (range_with_len l.index (l.count - l.index)) ≡ map (λ index. column_value l.schema index l.rows) (range_with_len 0 l.count)
