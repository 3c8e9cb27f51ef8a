use Rattle.std.proofs.Common.{◌≡◌, map, take}
use Rattle.pm_row_slots.specs.Seen.{seen_value}
use Rattle.pm_row_slots.proofs.seen.values_of.Given as goal

-- the values so far
abbrev pub invariant-loop-value : goal.invariant-loop-value
invariant-loop-value l = l.values.items ≡ map seen_value (take l.value-index l.seen)
