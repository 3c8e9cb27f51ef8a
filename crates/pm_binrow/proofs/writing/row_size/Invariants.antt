use Rattle.std.proofs.Common.{◌≡◌, ◌+◌, length, drop}
use Rattle.std.specs.List.{flat_map}
use Rattle.pm_binrow.specs.Row.{fixed_size, tail}
use Rattle.pm_binrow.proofs.writing.row_size.Given as goal

abbrev pub invariant-loop-value : goal.invariant-loop-value
invariant-loop-value l =
    l.size + length (flat_map tail (drop l.value-index l.values)) ≡ 4 + fixed_size (length l.values) + length (flat_map tail l.values)
