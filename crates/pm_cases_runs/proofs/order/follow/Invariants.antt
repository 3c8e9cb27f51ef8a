use Rattle.std.proofs.Common.{◌≡◌, Some, drop}
use Rattle.pm_run.specs.Order.{are_in_order}
use Rattle.pm_cases_runs.proofs.order.follow.Given as goal

-- those so far may follow
abbrev pub invariant-loop-row : goal.invariant-loop-row
invariant-loop-row l = are_in_order l.changes (Some l.last) (drop l.row-index l.rows) ≡ are_in_order l.changes (Some l.fn.before) l.rows
