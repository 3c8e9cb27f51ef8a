use Rattle.std.proofs.Common.{◌≡◌, drop}
use Rattle.std.specs.List.{list_all}
use Rattle.std.specs.Ordering.{is_ge}
use Rattle.pm_values.specs.Order.{value_cmp}
use Rattle.pm_reference.proofs.aggregates.is_least.Given as goal

-- none so far is beyond the value
abbrev pub invariant-loop-other : goal.invariant-loop-other
invariant-loop-other l = list_all (λ other. is_ge (value_cmp other l.value)) (drop l.other-index l.values) ≡ list_all (λ other. is_ge (value_cmp other l.value)) l.values
