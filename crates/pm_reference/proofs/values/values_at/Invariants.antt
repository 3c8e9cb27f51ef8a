use Rattle.std.proofs.Common.{◌≡◌, ◌++◌, drop}
use Rattle.pm_model_history.specs.ColumnValue.{values_at}
use Rattle.pm_reference.proofs.values.values_at.Given as goal

-- the values so far, and those that are left
abbrev pub invariant-loop-row : goal.invariant-loop-row
invariant-loop-row l = l.values.items ++ values_at l.index (drop l.row-index l.rows) ≡ values_at l.index l.rows
