use Rattle.std.proofs.Common.{◌≡◌, drop}
use Rattle.std.specs.List.{list_all}
use Rattle.std.specs.Ordering.{is_le}
use Rattle.pm_values.specs.Order.{value_cmp}
use Rattle.pm_model_history.specs.Merge.{value_at}
use Rattle.pm_reference.proofs.groups.none_exceeds.Given as goal

-- no row so far has a greater value
abbrev pub invariant-loop-row : goal.invariant-loop-row
invariant-loop-row l = list_all (λ other. is_le (value_cmp (value_at other.1 l.lead) l.value)) (drop l.row-index l.rows) ≡ list_all (λ other. is_le (value_cmp (value_at other.1 l.lead) l.value)) l.rows
