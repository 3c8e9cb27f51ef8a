-- What an argument of a case spells.
use Rattle.std.specs.Prelude.{ℕ, List, drop, codes, nat_eq, Option, Some, if◌then◌else◌}
use Rattle.std.specs.List.{starts_with}
use Rattle.pm_value_text.specs.Hexadecimal.{bytes_in}

-- the bytes of the digits after `0x`, or its own
abbrev pub spelled : List ℕ → Option (List ℕ)
spelled text = if starts_with nat_eq text (codes "0x") then bytes_in (drop 2 text) else Some text
