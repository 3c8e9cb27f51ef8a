-- Numbers as decimal texts. Such a text has no leading zero, and a `-` before a nonzero number alone.
use Rattle.std.specs.Prelude.{ℕ, ◌^◌, ◌&&◌, ℤ, pos, negsuc, List, Bool, nat_lt, if◌then◌else◌, Option, Some, None, decimal}
use Rattle.std.specs.Fmt.{signed_decimal}
use Rattle.std.specs.Str.{bytes_eq}
use Rattle.std.specs.Str.Parse.{digits_value, signed_digits_value}

-- a number of 64 bits
abbrev pub fits_natural : ℕ → Bool
fits_natural n = nat_lt n (2 ^ 64)

-- a number of 64 bits with its sign
abbrev pub fits_integer : ℤ → Bool
fits_integer (pos n) = nat_lt n (2 ^ 63)
fits_integer (negsuc n) = nat_lt n (2 ^ 63)

-- the number of 64 bits whose decimal text this is
unfoldable pub natural_in : List ℕ → Option ℕ
natural_in text =
    if fits_natural (digits_value 10 text) && bytes_eq (decimal (digits_value 10 text)) text
    then Some (digits_value 10 text) else None

-- the number of 64 bits with its sign whose decimal text this is
unfoldable pub integer_in : List ℕ → Option ℤ
integer_in text =
    if fits_integer (signed_digits_value 10 text) && bytes_eq (signed_decimal (signed_digits_value 10 text)) text
    then Some (signed_digits_value 10 text) else None
