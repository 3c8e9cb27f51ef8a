use Rattle.std.proofs.Common.{◌≡◌, drop}
use Rattle.std.specs.List.{filter_map}
use Rattle.pm_model_history.specs.ColumnValue.{truth_in, all_value}
use Rattle.pm_reference.proofs.StepLemmas.{all_on}
use Rattle.pm_reference.proofs.aggregates.all_value.Given as goal

-- the truths so far, and those that are left
abbrev pub invariant-loop-value : goal.invariant-loop-value
invariant-loop-value l = all_on l.all (filter_map truth_in (drop l.value-index l.values)) ≡ all_value (filter_map truth_in l.values)
