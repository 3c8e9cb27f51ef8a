-- Values and rows where they lie.
use Rattle.std.specs.Prelude.{map}
use Rattle.pm_values.specs.declared.record.Stamped.{Stamped}
use Rattle.pm_values.specs.declared.value.Value.{Value}
use Rattle.pm_values.specs.declared.value.Value.TheVariants as values
use Rattle.pm_row_slots.specs.declared.seen.Seen.{Seen}
use Rattle.pm_row_slots.specs.declared.seen.Seen.TheVariants as seen
use Rattle.pm_row_slots.specs.declared.slot.SeenRow.{SeenRow}

-- the value that lies there
abbrev pub seen_value : Seen → Value
seen_value seen.Null = values.Null
seen_value (seen.Bool truth) = values.Bool truth
seen_value (seen.Int number) = values.Int number
seen_value (seen.Text text) = values.Text text.now
seen_value (seen.Bytes content) = values.Bytes content.now
seen_value (seen.Day day) = values.Day day
seen_value (seen.Millis millis) = values.Millis millis

-- the row that lies there
abbrev pub seen_row : SeenRow → Stamped
seen_row r = record { key = map seen_value r.key.items; seq = r.seq; kind = r.kind; row = map seen_value r.row.items }
