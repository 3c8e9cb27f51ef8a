use Rattle.std.proofs.Common.{◌≡◌, ◌++◌, drop, map}
use Rattle.pm_model_history.specs.ColumnValue.{is_null}
use Rattle.pm_partial.proofs.partial_update.nulls_of.Given as goal

-- what is known so far, and the values that are left
abbrev pub invariant-loop-value : goal.invariant-loop-value
invariant-loop-value l = l.nulls.items ++ map is_null (drop l.value-index l.values) ≡ map is_null l.values
