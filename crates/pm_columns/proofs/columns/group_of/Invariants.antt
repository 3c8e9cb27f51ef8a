use Rattle.std.proofs.Common.{◌≡◌, drop}
use Rattle.std.specs.List.{find}
use Rattle.pm_model_history.specs.ColumnValue.{is_in_group}
use Rattle.pm_columns.proofs.columns.group_of.Given as goal

-- the column is in no group so far
abbrev pub invariant-loop-group : goal.invariant-loop-group
invariant-loop-group l = find (is_in_group l.column) (drop l.group-index l.schema.options.groups) ≡ find (is_in_group l.column) l.schema.options.groups
