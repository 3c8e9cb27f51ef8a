use Rattle.std.proofs.Common.{◌≡◌, ◌++◌, drop}
use Rattle.std.specs.List.{flat_map}
use Rattle.pm_binrow.specs.Row.{tail}
use Rattle.pm_binrow.proofs.writing.push_tails.Given as goal

abbrev pub invariant-loop-value : goal.invariant-loop-value
invariant-loop-value l = l.out.items ++ flat_map tail (drop l.value-index l.values) ≡ l.fn.out.items ++ flat_map tail l.values
