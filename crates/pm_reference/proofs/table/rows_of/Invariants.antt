use Rattle.std.proofs.Common.{◌≡◌, ◌++◌, drop}
use Rattle.pm_model_history.specs.Merge.{rows_of}
use Rattle.pm_reference.proofs.table.rows_of.Given as goal

-- the rows so far, and those that are left
abbrev pub invariant-loop-kind : goal.invariant-loop-kind
invariant-loop-kind l = l.own.items ++ rows_of l.primary l.key (drop l.kind-index l.rows) ≡ rows_of l.primary l.key l.rows
