use Rattle.std.proofs.Common.{◌≡◌, ◌++◌, drop}
use Rattle.pm_model_history.specs.ColumnValue.{non_null}
use Rattle.pm_reference.proofs.values.non_null.Given as goal

-- the values so far, and those that are left
abbrev pub invariant-loop-value : goal.invariant-loop-value
invariant-loop-value l = l.rest.items ++ non_null (drop l.value-index l.values) ≡ non_null l.values
