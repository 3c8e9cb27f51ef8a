use Rattle.std.proofs.Common.{◌≡◌, ◌++◌, map, take}
use Rattle.pm_row_slots.specs.Seen.{seen_value}
use Rattle.pm_rows.specs.Plain.{items_text}
use Rattle.pm_rows.proofs.plain.push_items.Given as goal

-- the items so far
abbrev pub invariant-loop-value : goal.invariant-loop-value
invariant-loop-value l = l.text.items ≡ l.fn.text.items ++ items_text (map seen_value (take l.value-index l.values))
