-- The folders of a table's data files: `<column>=<value>/` for each partition column, and `bucket-<n>`.
use Rattle.std.specs.Prelude.{ℕ, ◌+◌, ◌/◌, ◌%◌, ◌==◌, ◌||◌, nat_lt, List, [], ◌∷◌, ◌++◌, codes, decimal, Bool, true, false, IsSomeAnd, flat_map, if◌then◌else◌}
use Rattle.std.specs.Char.{is_ascii_alphabetic, is_ascii_digit}
use Rattle.std.specs.Fmt.{signed_decimal}
use Rattle.std.specs.List.{find, AllZip}
use Rattle.std.specs.Str.{bytes_eq}
use Rattle.pm_values.specs.Fits.{IsInType}
use Rattle.pm_values.specs.Order.{Values}
use Rattle.pm_values.specs.declared.column.Column.{Column}
use Rattle.pm_values.specs.declared.group.Group.{Group}
use Rattle.pm_values.specs.declared.value.Value.{Value}
use Rattle.pm_values.specs.declared.value.Value.TheVariants as values
use Rattle.pm_value_text.specs.Date.{IsDay, date_text}
use Rattle.pm_value_text.specs.Hexadecimal.{hex_text}
use Rattle.pm_schema.specs.declared.schema.TableSchema.{TableSchema}

-- a value that has a text: it isn't null, and a day is a date of the years 1 to 9999
abbrev pub HasText : Value → Type 0
HasText values.Null = ⊥
HasText (values.Day day) = IsDay day
HasText value = Unit {0}

-- the text of a value: numbers in decimal, bytes in lower-case hexadecimal digits, a day as its ten characters
abbrev pub value_text : Value → List ℕ
value_text values.Null = []
value_text (values.Bool true) = codes "true"
value_text (values.Bool false) = codes "false"
value_text (values.Int n) = signed_decimal n
value_text (values.Text text) = text
value_text (values.Bytes bytes) = hex_text bytes
value_text (values.Day day) = date_text day
value_text (values.Millis millis) = signed_decimal millis

-- the digit of a number below 16, in upper case
abbrev pub upper_digit : ℕ → ℕ
upper_digit n = if nat_lt n 10 then n + 48 else n + 55

-- letters, digits, `.`, `_` and `-` stand for themselves
abbrev pub is_plain : ℕ → Bool
is_plain b = is_ascii_alphabetic b || (is_ascii_digit b || (b == 46 || (b == 95 || b == 45)))

-- a byte in a folder's name: itself, or `%` and two digits
abbrev pub escaped_byte : ℕ → List ℕ
escaped_byte b = if is_plain b then b ∷ [] else 37 ∷ upper_digit (b / 16) ∷ upper_digit (b % 16) ∷ []

abbrev pub escaped : List ℕ → List ℕ
escaped text = flat_map escaped_byte text

-- the folder of a value of a partition column
abbrev pub part_text : List ℕ → Value → List ℕ
part_text column value = column ++ 61 ∷ (escaped (value_text value) ++ 47 ∷ [])

-- the folders of the values of partition columns, nested in their order
abbrev pub parts_text : List (List ℕ) → Values → List ℕ
parts_text (column ∷ columns) (value ∷ values) = part_text column value ++ parts_text columns values
parts_text columns values = []

-- the path of a group's folder
abbrev pub folder_text : TableSchema → Group → List ℕ
folder_text s group = parts_text s.partition group.partition ++ (codes "bucket-" ++ decimal group.bucket)

-- the value is one of the type of the column with that name
abbrev pub FitsPart : List Column → List ℕ → Value → Type 0
FitsPart columns name value = IsSomeAnd (find (λ c. bytes_eq c.name name) columns) (λ c. IsInType c.kind value)

-- one value for each partition column, of its type and range and not null
abbrev pub FitsPartition : TableSchema → Group → Type 0
FitsPartition s group = AllZip (FitsPart s.columns) s.partition group.partition
