use Rattle.std.proofs.Common.{◌≡◌, ◌≤◌, ◌-◌, length, map, take}
use Rattle.pm_lanes.specs.Longs.{long_bucket}
use Rattle.pm_lanes.proofs.longs.buckets_of.Given as goal

abbrev pub invariant-loop-done : goal.invariant-loop-done
invariant-loop-done l = record {
  within : l.done ≤ length l.keys;
  so_far : take l.done l.out ≡ map (long_bucket l.buckets) (take l.done l.keys);
}

abbrev pub decreases-loop-done : goal.decreases-loop-done
decreases-loop-done l = length l.keys - l.done
