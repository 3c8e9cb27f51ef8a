use Rattle.std.proofs.Common.{◌≡◌, map, take, w32}
use Rattle.std.specs.Int.{cast_signed}
use Rattle.pm_lanes.proofs.lanes.put_signed.Given as goal

abbrev pub invariant-loop-index : goal.invariant-loop-index
invariant-loop-index l = take l.index l.out ≡ map (cast_signed w32) (take l.index l.hashes)
