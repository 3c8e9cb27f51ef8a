use Rattle.std.proofs.Common.{◌≡◌, ◌++◌, drop, map}
use Rattle.pm_partial.specs.Update.{update_on}
use Rattle.pm_partial.proofs.partial_update.updates_of.Given as goal

-- the columns so far, and those that are left
abbrev pub invariant-loop-column : goal.invariant-loop-column
invariant-loop-column l = l.updates.items ++ map (update_on l.schema) (drop l.column-index l.columns) ≡ map (update_on l.schema) l.columns
