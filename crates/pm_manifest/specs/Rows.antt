-- Rows without a null, and what their bytes are.
use Rattle.std.specs.Prelude.{◌≡◌, ℕ, List, false, Option, Some, None, if◌then◌else◌}
use Rattle.std.specs.List.{list_any}
use Rattle.pm_base.specs.Steps.{◌>>=◌}
use Rattle.pm_values.specs.declared.column.ColType.{ColType}
use Rattle.pm_values.specs.Order.{Values}
use Rattle.pm_binrow.specs.Row.{IsRow, IsShort, is_null}
use Rattle.pm_binrow.specs.Reading.{row_in}

-- a row, unless it has a null
abbrev pub unless_null : Values → Option Values
unless_null row = if list_any is_null row then None else Some row

-- the row of these types, without a null, that the bytes are
abbrev pub full_row : List ColType → List ℕ → Option Values
full_row types bytes = row_in types bytes >>= unless_null

-- a row of these types, without a null, that has bytes
pub record IsFull (types : List ColType) (row : Values) : Type 0 where
  pub typed : IsRow types row
  pub short : IsShort types row
  pub full : list_any is_null row ≡ false
