use Rattle.std.proofs.Common.{◌≡◌, ◌++◌, drop, map}
use Rattle.pm_partial.specs.PartialUpdate.{side_of}
use Rattle.pm_partial.proofs.partial_update.sides_of.Given as goal

-- the sides so far, and the columns that are left
abbrev pub invariant-loop-update : goal.invariant-loop-update
invariant-loop-update l = l.sides.items ++ map (side_of l.older l.newer) (drop l.update-index l.updates) ≡ map (side_of l.older l.newer) l.updates
