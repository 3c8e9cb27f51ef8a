use Rattle.std.proofs.Common.{◌≡◌, ◌++◌, drop, map}
use Rattle.pm_aggregate.specs.ColumnFunction.{function_on}
use Rattle.pm_aggregate.proofs.aggregation.functions_of.Given as goal

-- the functions so far, and those that are left
abbrev pub invariant-loop-column : goal.invariant-loop-column
invariant-loop-column l = l.functions.items ++ map (function_on l.schema) (drop l.column-index l.columns) ≡ map (function_on l.schema) l.columns
