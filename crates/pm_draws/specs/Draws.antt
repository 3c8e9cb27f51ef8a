-- The rows that are drawn from a seed: numbers one after another, and of each one row of the table that they fill.
use Rattle.std.specs.Prelude.{ℕ, zero, suc, ◌+◌, ◌*◌, ◌/◌, ◌%◌, ◌^◌, ◌==◌, List, [], ◌∷◌, pos, if◌then◌else◌}
use Rattle.std.specs.List.{flat_map}
use Rattle.pm_base.specs.Newline.{line}
use Rattle.pm_values.specs.Order.{Values}
use Rattle.pm_values.specs.declared.kind.Kind.{Kind}
use Rattle.pm_values.specs.declared.kind.Kind.TheVariants.{Insert, Delete}
use Rattle.pm_values.specs.declared.value.Value.TheVariants.{Int}
use Rattle.pm_rows.specs.RowText.{row_text}
use Rattle.pm_model_history.specs.Merge.{HistoryRow}

-- the number that is drawn after this one: Knuth's multiplier of MMIX and its increment, in 64 bits
abbrev pub next_draw : ℕ → ℕ
next_draw x = (x * 6364136223846793005 + 1442695040888963407) % 2 ^ 64

-- the kind that a number stands for: one in sixteen deletes
abbrev pub kind_drawn : ℕ → Kind
kind_drawn x = if x / 2 ^ 60 == 0 then Delete else Insert

-- the values of a number's row: a key below 1,000 and a number below 1,000,000
abbrev pub values_drawn : ℕ → Values
values_drawn x = Int (pos (x / 2 ^ 33 % 1000)) ∷ Int (pos (x / 2 ^ 11 % 1000000)) ∷ []

-- the row of a number
abbrev pub row_drawn : ℕ → HistoryRow
row_drawn x = (kind_drawn x, values_drawn x)

-- the last of so many numbers that are drawn after this one
abbrev pub last_draw : ℕ → ℕ → ℕ
last_draw x zero = x
last_draw x (suc n) = last_draw (next_draw x) n

-- the rows of so many numbers that are drawn after this one
abbrev pub drawn_rows : ℕ → ℕ → List HistoryRow
drawn_rows x zero = []
drawn_rows x (suc n) = row_drawn (next_draw x) ∷ drawn_rows (next_draw x) n

-- the line of a row
abbrev pub line_of : HistoryRow → List ℕ
line_of row = line (row_text row.0 row.1)

-- the lines of those rows
abbrev pub drawn_text : ℕ → ℕ → List ℕ
drawn_text x n = flat_map line_of (drawn_rows x n)
