use Rattle.std.proofs.Common.{◌≡◌, ◌+◌, ◌*◌, length, drop}
use Rattle.pm_binrow.specs.Reading.{with_earlier, cells_in}
use Rattle.pm_binrow.proofs.reading.read_cells.Given as goal

abbrev pub invariant-loop-i : goal.invariant-loop-i
invariant-loop-i l = record {
  room : length l.places + 8 * l.i ≡ 8 * length l.types;
  read : with_earlier l.values.items (cells_in l.size l.nulls (8 + l.i) (drop l.i l.types) l.places l.left)
      ≡ cells_in l.size l.nulls 8 l.types l.slots l.tails;
}
