-- What the text of a scan shows of a table that was filled with drawn rows: of each line the number.
use Rattle.std.specs.Prelude.{ℕ, ◌==◌, ℤ, ◌+ℤ◌, pos, List, [], ◌∷◌, codes, Result, Ok, Err, false, true}
use Rattle.std.specs.List.{flat_map, slice_split}
use Rattle.pm_base.specs.Newline.{newline}
use Rattle.pm_values.specs.Order.{Values}
use Rattle.pm_values.specs.declared.column.ColType.TheVariants.{BigInt}
use Rattle.pm_values.specs.declared.column.Column.{Column}
use Rattle.pm_values.specs.declared.kind.Kind.{Kind}
use Rattle.pm_values.specs.declared.value.Value.TheVariants.{Int}
use Rattle.pm_rows.specs.Reading.{Fault, row_of}

-- the columns of the table: a key, and a number that may be null
abbrev pub drawn_columns : List Column
drawn_columns = record { id = 0; name = codes "id"; kind = BigInt; nullable = false }
    ∷ record { id = 1; name = codes "v"; kind = BigInt; nullable = true } ∷ []

-- the number of a row, 0 where it has none
abbrev pub number_in : Values → ℤ
number_in (key ∷ Int number ∷ []) = number
number_in other = pos 0

-- the number of a line's row, where it is one
abbrev pub numbers_of : Result (Kind × Values) Fault → List ℤ
numbers_of (Ok row) = number_in row.1 ∷ []
numbers_of (Err fault) = []

abbrev pub numbers_at : List ℕ → List ℤ
numbers_at line = numbers_of (row_of drawn_columns line)

-- the numbers of all rows that the text shows
abbrev pub shown_numbers : List ℕ → List ℤ
shown_numbers text = flat_map numbers_at (slice_split (λ b. b == newline) text)

-- their sum
abbrev pub sum_of : List ℤ → ℤ
sum_of [] = pos 0
sum_of (number ∷ numbers) = number +ℤ sum_of numbers
