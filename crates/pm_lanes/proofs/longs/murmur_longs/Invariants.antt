use Rattle.std.proofs.Common.{◌≡◌, ◌≤◌, ◌-◌, length, map, take}
use Rattle.pm_lanes.specs.Longs.{long_hash}
use Rattle.pm_lanes.proofs.longs.murmur_longs.Given as goal

abbrev pub invariant-loop-done : goal.invariant-loop-done
invariant-loop-done l = record {
  within : l.done ≤ length l.values;
  so_far : take l.done l.out ≡ map long_hash (take l.done l.values);
}

abbrev pub decreases-loop-done : goal.decreases-loop-done
decreases-loop-done l = length l.values - l.done
