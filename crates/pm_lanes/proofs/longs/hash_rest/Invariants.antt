use Rattle.std.proofs.Common.{◌≡◌, map, take}
use Rattle.pm_lanes.specs.Longs.{long_hash}
use Rattle.pm_lanes.proofs.longs.hash_rest.Given as goal

abbrev pub invariant-loop-index : goal.invariant-loop-index
invariant-loop-index l = take l.index l.out ≡ map long_hash (take l.index l.values)
