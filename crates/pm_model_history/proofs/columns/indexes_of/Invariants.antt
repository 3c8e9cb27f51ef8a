use Rattle.std.proofs.Common.{◌≡◌, ◌++◌, drop, map}
use Rattle.pm_model_history.specs.ColumnValue.{index_of}
use Rattle.pm_model_history.proofs.columns.indexes_of.Given as goal

-- the indexes so far, and those that are left
abbrev pub invariant-loop-name : goal.invariant-loop-name
invariant-loop-name l = l.indexes.items ++ map (index_of l.schema) (drop l.name-index l.names) ≡ map (index_of l.schema) l.names
