-- Blank lines. They count among the lines, and have no row.
use Rattle.std.specs.Prelude.{ℕ, List, length, filter, Bool, not, ◌==◌, ◌||◌}
use Rattle.std.specs.List.{list_all}

-- a space, a tab or a carriage return
abbrev pub is_blank_byte : ℕ → Bool
is_blank_byte b = (b == 32) || (b == 9) || (b == 13)

-- a line of such bytes alone
abbrev pub is_blank : List ℕ → Bool
is_blank line = list_all is_blank_byte line

-- how many of the lines aren't blank
abbrev pub row_count : List (List ℕ) → ℕ
row_count lines = length (filter (λ line. not (is_blank line)) lines)
