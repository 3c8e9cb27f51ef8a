use Rattle.std.proofs.Common.{◌≡◌, drop}
use Rattle.std.specs.List.{find, list_all}
use Rattle.std.specs.Ordering.{is_le}
use Rattle.pm_values.specs.Order.{value_cmp}
use Rattle.pm_reference.proofs.aggregates.greatest.Given as goal

-- none so far is the one
abbrev pub invariant-loop-value : goal.invariant-loop-value
invariant-loop-value l = find (λ value. list_all (λ other. is_le (value_cmp other value)) l.values) (drop l.value-index l.values) ≡ find (λ value. list_all (λ other. is_le (value_cmp other value)) l.values) l.values
