use Rattle.std.proofs.Common.{◌≡◌, take}
use Rattle.pm_values.proofs.row.copied.Given as goal

-- what was copied so far
abbrev pub invariant-loop-value : goal.invariant-loop-value
invariant-loop-value l = l.out.items ≡ take l.value-index l.values
