-- What fits a column, and the columns of a table.
use Rattle.std.specs.Prelude.{◌<◌, ℤ, pos, negsuc, ◌≤ℤ◌, List, [], ◌∷◌, IsTrue, IsUtf8, FitsSigned}
use Rattle.std.specs.Int.{w8, w16, w32, w64}
use Rattle.std.specs.List.{AllByRecursion}
use Rattle.pm_values.specs.declared.value.Value.{Value}
use Rattle.pm_values.specs.declared.value.Value.TheVariants.{Null, Bool as Truth, Int as Whole, Text as Words}
use Rattle.pm_values.specs.declared.value.Value.TheVariants.{Bytes as Octets, Day, Millis}
use Rattle.pm_values.specs.declared.column.ColType.{ColType}
use Rattle.pm_values.specs.declared.column.ColType.TheVariants.{Boolean, TinyInt, SmallInt, Int, BigInt}
use Rattle.pm_values.specs.declared.column.ColType.TheVariants.{Text, Bytes, Date, Timestamp}
use Rattle.pm_values.specs.declared.column.Column.{Column}
use Rattle.pm_values.specs.Order.{Values}

-- the day numbers of 0001-01-01 and of 9999-12-31
abbrev pub first_day : ℤ
first_day = negsuc 719161

abbrev pub last_day : ℤ
last_day = pos 2932896

-- a value that isn't null is in a type's range
abbrev pub IsInType : ColType → Value → Type 0
IsInType Boolean (Truth b) = Unit {0}
IsInType TinyInt (Whole n) = FitsSigned w8 n
IsInType SmallInt (Whole n) = FitsSigned w16 n
IsInType Int (Whole n) = FitsSigned w32 n
IsInType BigInt (Whole n) = FitsSigned w64 n
IsInType Text (Words bytes) = IsUtf8 bytes
IsInType Bytes (Octets bytes) = AllByRecursion (λ b. b < 256) bytes
IsInType Date (Day d) = (first_day ≤ℤ d) × (d ≤ℤ last_day)
IsInType Timestamp (Millis m) = FitsSigned w64 m
IsInType kind value = ⊥

-- a value fits a column: null in a nullable one alone
abbrev pub FitsColumn : Column → Value → Type 0
FitsColumn column Null = IsTrue column.nullable
FitsColumn column value = IsInType column.kind value

-- a row has one value for each column, which fits it
abbrev pub Fits : List Column → Values → Type 0
Fits [] [] = Unit {0}
Fits (column ∷ columns) (value ∷ values) = FitsColumn column value × Fits columns values
Fits columns values = ⊥
