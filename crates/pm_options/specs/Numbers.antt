-- Numbers and times in options' texts.
use Rattle.std.specs.Prelude.{ℕ, ◌*◌, ◌^◌, ◌==◌, ◌&&◌, nat_lt, nat_le, not, Bool, List, length, drop, codes, Option, Some, None, if◌then◌else◌, slice_index, take, option_and_then}
use Rattle.std.specs.Char.{is_ascii_digit}
use Rattle.std.specs.List.{list_all, prefix_len}
use Rattle.std.specs.Str.{bytes_eq}
use Rattle.std.specs.Str.Parse.{digits_value}

-- one decimal digit or more
abbrev pub is_digits : List ℕ → Bool
is_digits text = nat_lt 0 (length text) && list_all is_ascii_digit text

-- A number's text has no sign, and no zero before another digit. It may be of any length.
abbrev pub number_in : List ℕ → Option ℕ
number_in text =
    if is_digits text && not (slice_index text 0 == 48 && nat_lt 1 (length text))
    then Some (digits_value 10 text) else None

-- the number, if it is one of those from low to high
abbrev pub within : ℕ → ℕ → ℕ → Option ℕ
within low high n = if nat_le low n && nat_le n high then Some n else None

-- a number from low to high
abbrev pub number_from : ℕ → ℕ → List ℕ → Option ℕ
number_from low high text = option_and_then (within low high) (number_in text)

-- the milliseconds of a unit of time
abbrev pub unit_millis : List ℕ → Option ℕ
unit_millis unit =
    if bytes_eq unit (codes "ms") then Some 1
    else (if bytes_eq unit (codes "s") then Some 1000
    else (if bytes_eq unit (codes "min") then Some 60000
    else (if bytes_eq unit (codes "h") then Some 3600000
    else (if bytes_eq unit (codes "d") then Some 86400000
    else None))))

-- the text after a space, where it begins with one
abbrev pub unspaced : List ℕ → List ℕ
unspaced text = if slice_index text 0 == 32 then drop 1 text else text

-- the longest time that an option may state, in milliseconds
abbrev pub longest : ℕ
longest = 2 ^ 53

-- a time in milliseconds: digits, which may begin with zeros, a space or none, and a unit
abbrev pub time_of : List ℕ → List ℕ → Option ℕ
time_of digits unit =
    if nat_lt 0 (length digits)
    then option_and_then (λ millis. within 0 longest (digits_value 10 digits * millis)) (unit_millis (unspaced unit))
    else None

abbrev pub time_in : List ℕ → Option ℕ
time_in text = time_of (take (prefix_len is_ascii_digit text) text) (drop (prefix_len is_ascii_digit text) text)
