use Rattle.std.proofs.Common.{drop}
use Rattle.pm_run.specs.Writing.{CountFrom}
use Rattle.pm_cases_runs.proofs.order.count_from_zero.Given as goal

-- those so far count
abbrev pub invariant-loop-index : goal.invariant-loop-index
invariant-loop-index l = CountFrom l.index (drop l.index l.rows) → CountFrom 0 l.rows
