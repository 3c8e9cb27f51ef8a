use Rattle.std.proofs.Common.{◌≡◌, map, take}
use Rattle.pm_levels.specs.Runs.{run_of}
use Rattle.pm_levels.specs.Sizes.{size_of}
use Rattle.pm_levels.proofs.levels.Levels.sizes.Given as goal

abbrev pub invariant-loop-run : goal.invariant-loop-run
invariant-loop-run l = l.sizes.items ≡ map size_of (map run_of (take l.run-index l.run-items))
