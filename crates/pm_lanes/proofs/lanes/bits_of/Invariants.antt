use Rattle.std.proofs.Common.{◌≡◌, length, map, take, w64}
use Rattle.std.specs.Int.{cast_unsigned}
use Rattle.pm_lanes.proofs.lanes.bits_of.Given as goal

abbrev pub invariant-loop-index : goal.invariant-loop-index
invariant-loop-index l = record {
  room : length l.bits ≡ 8;
  so_far : take l.index l.bits ≡ map (cast_unsigned w64) (take l.index l.values);
}
