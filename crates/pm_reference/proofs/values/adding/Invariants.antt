use Rattle.std.proofs.Common.{◌≡◌, ◌++◌, drop}
use Rattle.pm_model_history.specs.ColumnValue.{adding}
use Rattle.pm_reference.proofs.values.adding.Given as goal

-- the rows so far, and those that are left
abbrev pub invariant-loop-kind : goal.invariant-loop-kind
invariant-loop-kind l = l.some.items ++ adding (drop l.kind-index l.rows) ≡ adding l.rows
