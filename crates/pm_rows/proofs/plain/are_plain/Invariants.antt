use Rattle.std.proofs.Common.{map, take}
use Rattle.std.specs.List.{AllByRecursion}
use Rattle.pm_row_slots.specs.Seen.{seen_value}
use Rattle.pm_rows.specs.Plain.{IsPlain}
use Rattle.pm_rows.proofs.plain.are_plain.Given as goal

-- those so far are plain
abbrev pub invariant-loop-value : goal.invariant-loop-value
invariant-loop-value l = AllByRecursion IsPlain (map seen_value (take l.value-index l.values))
