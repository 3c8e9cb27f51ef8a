use Rattle.std.proofs.Common.{◌≡◌, ◌++◌, ◌+◌, length, drop}
use Rattle.std.specs.List.{flat_map}
use Rattle.pm_binrow.specs.Row.{slots, tail}
use Rattle.pm_binrow.proofs.writing.push_slots.Given as goal

abbrev pub invariant-loop-i : goal.invariant-loop-i
invariant-loop-i l = record {
  counted : l.offset + length (flat_map tail (drop l.i l.values)) ≡ l.fn.offset + length (flat_map tail l.values);
  written : l.out.items ++ slots l.offset (drop l.i l.types) (drop l.i l.values) ≡ l.fn.out.items ++ slots l.fn.offset l.types l.values;
}
