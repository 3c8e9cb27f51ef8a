-- The bytes of a row: how many columns it has, and then its body of null bytes, slots of eight bytes and tails.
use Rattle.std.specs.Prelude.{ℕ, zero, suc, ◌+◌, ◌-◌, ◌*◌, ◌/◌, ◌%◌, ◌^◌, ◌<◌, Bool, true, false, nat_lt}
use Rattle.std.specs.Prelude.{List, [], ◌∷◌, ◌++◌, length, take, drop, map, replicate, if◌then◌else◌}
use Rattle.std.specs.Int.{w32, w64, cast_unsigned, to_le_bytes, to_be_bytes}
use Rattle.std.specs.List.{flat_map}
use Rattle.pm_values.specs.declared.value.Value.{Value}
use Rattle.pm_values.specs.declared.value.Value.TheVariants.{Null, Bool as Truth, Int as Whole, Text as Words}
use Rattle.pm_values.specs.declared.value.Value.TheVariants.{Bytes as Octets, Day, Millis}
use Rattle.pm_values.specs.declared.column.ColType.{ColType}
use Rattle.pm_values.specs.declared.column.ColType.TheVariants.{TinyInt, SmallInt, Int}
use Rattle.pm_values.specs.Fits.{IsInType}
use Rattle.pm_values.specs.Order.{Values}

-- so many bytes 0
abbrev pub zeros : ℕ → List ℕ
zeros n = replicate n 0

-- ---- which values are null

abbrev pub is_null : Value → Bool
is_null Null = true
is_null value = false

-- a bit as a number
abbrev pub bit : Bool → ℕ
bit b = if b then 1 else 0

-- the number of some bits, lowest first
unfoldable pub octet : List Bool → ℕ
octet [] = 0
octet (b ∷ bits) = bit b + 2 * octet bits

-- so many bytes of eight bits each, lowest first; the bits after those of the list are 0
unfoldable pub octets : ℕ → List Bool → List ℕ
octets zero bits = []
octets (suc n) bits = octet (take 8 bits) ∷ octets n (drop 8 bits)

-- eight bits 0, and then a bit for each column
abbrev pub null_bits : List Bool → List Bool
null_bits flags = replicate 8 false ++ flags

-- how many null bytes so many columns have: their bits fill up a multiple of 64
abbrev pub null_count : ℕ → ℕ
null_count columns = (columns + 71) / 64 * 8

-- the null bytes of columns, whose flags say which are null
abbrev pub null_bytes : List Bool → List ℕ
null_bytes flags = octets (null_count (length flags)) (null_bits flags)

-- ---- one value

-- a number of 64 bits, cut to those of a column's type
abbrev pub cut : ColType → ℕ → ℕ
cut TinyInt n = n % 2 ^ 8
cut SmallInt n = n % 2 ^ 16
cut Int n = n % 2 ^ 32
cut kind n = n

-- a length, filled up to a multiple of eight
abbrev pub padded : ℕ → ℕ
padded n = (n + 7) / 8 * 8

-- The slot of a text, or of bytes. At most seven bytes stand in it, with zeros after them, and the last byte is 128
-- and their number. Of more it has their length and the offset of their tail in the body.
unfoldable pub text_slot : ℕ → List ℕ → List ℕ
text_slot offset text =
    if nat_lt 7 (length text) then to_le_bytes w32 (length text) ++ to_le_bytes w32 offset
    else text ++ (zeros (7 - length text) ++ (128 + length text) ∷ [])

-- its tail: more than seven bytes, filled up with zeros
unfoldable pub text_tail : List ℕ → List ℕ
text_tail text = if nat_lt 7 (length text) then text ++ zeros (padded (length text) - length text) else []

-- The slot of a value, whose tail would stand at this offset. A number is in two's complement in the width of its type,
-- lowest byte first, with zeros after it.
unfoldable pub slot : ℕ → ColType → Value → List ℕ
slot offset kind Null = zeros 8
slot offset kind (Truth b) = to_le_bytes w64 (bit b)
slot offset kind (Whole n) = to_le_bytes w64 (cut kind (cast_unsigned w64 n))
slot offset kind (Day d) = to_le_bytes w64 (cast_unsigned w32 d)
slot offset kind (Millis m) = to_le_bytes w64 (cast_unsigned w64 m)
slot offset kind (Words text) = text_slot offset text
slot offset kind (Octets bytes) = text_slot offset bytes

-- the tail of a value
unfoldable pub tail : Value → List ℕ
tail (Words text) = text_tail text
tail (Octets bytes) = text_tail bytes
tail value = []

-- ---- a row

-- the slots of values in columns of these types, whose tails stand from this offset on, in the order of the columns
unfoldable pub slots : ℕ → List ColType → Values → List ℕ
slots offset [] values = []
slots offset (kind ∷ kinds) [] = []
slots offset (kind ∷ kinds) (value ∷ values) =
    slot offset kind value ++ slots (offset + length (tail value)) kinds values

-- how many bytes of a body stand before its tails
abbrev pub fixed_size : ℕ → ℕ
fixed_size columns = null_count columns + 8 * columns

-- the body of one value for each column
abbrev pub body : List ColType → Values → List ℕ
body kinds values =
    null_bytes (map is_null values)
    ++ (slots (fixed_size (length kinds)) kinds values ++ flat_map tail values)

-- the bytes of one value for each column
abbrev pub bytes_of : List ColType → Values → List ℕ
bytes_of kinds values = to_be_bytes w32 (length kinds) ++ body kinds values

-- as many values as columns: null where there is none, and none after them
abbrev pub filled : ℕ → Values → Values
filled columns values = take columns (values ++ replicate columns Null)

-- the bytes of a row
abbrev pub row_bytes : List ColType → Values → List ℕ
row_bytes kinds values = bytes_of kinds (filled (length kinds) values)

-- null, or a value in the type's range
abbrev pub IsCell : ColType → Value → Type 0
IsCell kind Null = Unit {0}
IsCell kind value = IsInType kind value

-- one such value for each column
abbrev pub IsRow : List ColType → Values → Type 0
IsRow [] [] = Unit {0}
IsRow (kind ∷ kinds) (value ∷ values) = IsCell kind value × IsRow kinds values
IsRow kinds values = ⊥

-- The row takes fewer than 2^31 bytes. So the last byte of an offset is below 128, and no long text looks like a short
-- one.
abbrev pub IsShort : List ColType → Values → Type 0
IsShort kinds values = length (row_bytes kinds values) < 2 ^ 31
