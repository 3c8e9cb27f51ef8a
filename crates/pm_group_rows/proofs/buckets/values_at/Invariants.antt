use Rattle.std.proofs.Common.{◌≡◌, map, take}
use Rattle.pm_model_history.specs.Merge.{value_at}
use Rattle.pm_group_rows.proofs.buckets.values_at.Given as goal

-- the values at the indexes so far
abbrev pub invariant-loop-column : goal.invariant-loop-column
invariant-loop-column l = l.values.items ≡ map (λ index. value_at l.row index) (take l.column-index l.columns)
