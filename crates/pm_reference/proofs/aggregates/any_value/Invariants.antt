use Rattle.std.proofs.Common.{◌≡◌, drop}
use Rattle.std.specs.List.{filter_map}
use Rattle.pm_model_history.specs.ColumnValue.{truth_in, any_value}
use Rattle.pm_reference.proofs.StepLemmas.{any_on}
use Rattle.pm_reference.proofs.aggregates.any_value.Given as goal

-- the truths so far, and those that are left
abbrev pub invariant-loop-value : goal.invariant-loop-value
invariant-loop-value l = any_on l.any (filter_map truth_in (drop l.value-index l.values)) ≡ any_value (filter_map truth_in l.values)
