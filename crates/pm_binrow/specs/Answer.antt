-- What reading answers where the bytes are those of a row.
use Rattle.std.specs.Prelude.{◌≡◌, Result, Ok, Err}
use Rattle.pm_values.specs.Order.{Values}
use Rattle.pm_binrow.specs.declared.fault.BinFault.{BinFault}
use Rattle.pm_binrow.specs.declared.fault.BinFault.TheVariants.{Memory, Bad}

-- the row, or out of memory
abbrev pub Answers : Values → Result Values BinFault → Type 0
Answers row (Ok found) = found ≡ row
Answers row (Err Memory) = Unit {0}
Answers row (Err Bad) = ⊥
