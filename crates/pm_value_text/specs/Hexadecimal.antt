-- Bytes as text: two hexadecimal digits for each, the high four bits first.
use Rattle.std.specs.Prelude.{ℕ, ◌+◌, ◌-◌, ◌*◌, ◌/◌, ◌%◌, ◌⊎◌, List, [], ◌∷◌, Option, Some, None, codes, flat_map}
use Rattle.std.specs.Prelude.{if◌then◌else◌, slice_index}
use Rattle.std.specs.Int.{IsInRange, is_in_range}
use Rattle.pm_value_text.specs.Steps.{◌>>=◌}

-- the value of a digit of either case
abbrev pub digit_in : ℕ → Option ℕ
digit_in c =
    if is_in_range 48 57 c then Some (c - 48)
    else if is_in_range 97 102 c then Some (c - 87)
    else if is_in_range 65 70 c then Some (c - 55)
    else None

-- the bytes of a text of digits, of which the number is even; none for any other text
unfoldable pub bytes_in : List ℕ → Option (List ℕ)
bytes_in [] = Some []
bytes_in (single ∷ []) = None
bytes_in (high ∷ low ∷ text) = do
  h ← digit_in high
  l ← digit_in low
  bytes ← bytes_in text
  Some ((h * 16 + l) ∷ bytes)

-- the digit of a number below 16, in lower case
abbrev pub digit_of : ℕ → ℕ
digit_of n = slice_index (codes "0123456789abcdef") n

-- the text of bytes, in lower case
unfoldable pub hex_text : List ℕ → List ℕ
hex_text bytes = flat_map (λ b. digit_of (b / 16) ∷ digit_of (b % 16) ∷ []) bytes

-- a digit that isn't in upper case: `0` to `9` or `a` to `f`
abbrev pub IsLowerDigit : ℕ → Type 0
IsLowerDigit c = IsInRange 48 57 c ⊎ IsInRange 97 102 c
