use Rattle.std.proofs.Common.{◌≡◌, map, take}
use Rattle.pm_row_slots.specs.Seen.{seen_value}
use Rattle.pm_row_slots.proofs.seen.lend_values.Given as goal

-- the values so far
abbrev pub invariant-loop-value : goal.invariant-loop-value
invariant-loop-value l = map seen_value l.into.items ≡ take l.value-index l.values
