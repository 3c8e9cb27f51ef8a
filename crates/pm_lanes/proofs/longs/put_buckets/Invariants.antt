use Rattle.std.proofs.Common.{◌≡◌, map, take}
use Rattle.pm_binrow.specs.Hashing.{bucket_of}
use Rattle.pm_lanes.proofs.longs.put_buckets.Given as goal

abbrev pub invariant-loop-index : goal.invariant-loop-index
invariant-loop-index l = take l.index l.out ≡ map (λ hash. bucket_of hash l.buckets) (take l.index l.hashes)
