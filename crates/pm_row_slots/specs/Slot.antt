-- The row of a place, and how those of two compare.
use Rattle.std.specs.Prelude.{◌≡◌, ℕ, max, Bool, true, false, Option, None, Some}
use Rattle.std.specs.declared.cmp.Ordering.{Ordering}
use Rattle.std.specs.declared.cmp.Ordering.TheVariants.{Less, Greater}
use Rattle.pm_values.specs.Order.{key_cmp}
use Rattle.pm_values.specs.declared.record.Stamped.{Stamped}
use Rattle.pm_row_slots.specs.Seen.{seen_row}
use Rattle.pm_row_slots.specs.declared.slot.PlacedRow.{PlacedRow}
use Rattle.pm_row_slots.specs.declared.slot.PlacedRow.TheVariants as placed
use Rattle.pm_row_slots.specs.declared.slot.SeenRow.{SeenRow}

-- Private: the row of a place, by whether it lies in bytes
abbrev pub row_in : Bool → SeenRow → Option Stamped → Option Stamped
row_in true seen own = Some (seen_row seen)
row_in false seen own = own

-- the number of the row of a place, or 0
abbrev pub number_of : Option Stamped → ℕ
number_of (Some s) = s.seq
number_of None = 0

-- the stored row, with the number where this is greater than its own
abbrev pub raised : ℕ → Stamped → Stamped
raised number s = record { key = s.key; seq = max s.seq number; kind = s.kind; row = s.row }

-- the row of a place, where it stands
abbrev pub placed_row : PlacedRow → Stamped
placed_row (placed.Lying row) = seen_row row.now
placed_row (placed.Own row) = row.now

-- the order of two rows by their keys, where one that isn't there is as if above all
abbrev pub OrdersFirst : Option Stamped → Option Stamped → Option Ordering → Type 0
OrdersFirst (Some a) (Some b) order = order ≡ Some (key_cmp a.key b.key)
OrdersFirst (Some a) None order = order ≡ Some Less
OrdersFirst None (Some b) order = order ≡ Some Greater
OrdersFirst None None order = order ≡ None
