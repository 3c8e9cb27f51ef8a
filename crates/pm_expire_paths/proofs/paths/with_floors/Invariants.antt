use Rattle.std.proofs.Common.{◌≡◌, ◌++◌, drop}
use Rattle.pm_model_expiry.specs.Removals.{floor_paths}
use Rattle.pm_expire_paths.proofs.paths.with_floors.Given as goal

abbrev pub invariant-loop-floor : goal.invariant-loop-floor
invariant-loop-floor l = l.all.items ++ floor_paths (drop l.floor-index l.floors) ≡ l.fn.paths.items ++ floor_paths l.floors
