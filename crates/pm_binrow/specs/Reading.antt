-- The row that bytes are, if they are one, and what a reading answers.
use Rattle.std.specs.Prelude.{◌≡◌, ℕ, ◌+◌, ◌-◌, ◌*◌, ◌/◌, ◌%◌, ◌^◌, ◌==◌, ◌&&◌, Bool, true, false}
use Rattle.std.specs.Prelude.{nat_lt, nat_le, ℤ, List, [], ◌∷◌, ◌++◌, length, take, drop, map, slice_index}
use Rattle.std.specs.Prelude.{Option, Some, None, option_map, Result, Ok, Err, if◌then◌else◌, int_le}
use Rattle.std.specs.Int.{w8, w16, w32, w64, cast_signed, from_le_bytes, from_be_bytes}
use Rattle.std.specs.Str.{is_utf8}
use Rattle.pm_base.specs.Steps.{◌>>=◌}
use Rattle.pm_values.specs.declared.value.Value.{Value}
use Rattle.pm_values.specs.declared.value.Value.TheVariants.{Null, Bool as Truth, Int as Whole, Text as Words}
use Rattle.pm_values.specs.declared.value.Value.TheVariants.{Bytes as Octets, Day, Millis}
use Rattle.pm_values.specs.declared.column.ColType.{ColType}
use Rattle.pm_values.specs.declared.column.ColType.TheVariants.{Boolean, TinyInt, SmallInt, Int, BigInt}
use Rattle.pm_values.specs.declared.column.ColType.TheVariants.{Text, Bytes, Date, Timestamp}
use Rattle.pm_values.specs.Fits.{first_day, last_day}
use Rattle.pm_values.specs.Order.{Values}
use Rattle.pm_binrow.specs.declared.fault.BinFault.{BinFault}
use Rattle.pm_binrow.specs.declared.fault.BinFault.TheVariants.{Memory, Bad}
use Rattle.pm_binrow.specs.Row.{octet, null_bits, null_count, fixed_size, padded, is_null}

-- a fault where nothing is read, or out of memory, of which nothing is said
abbrev pub YieldsNone : {Y : Type 0} → BinFault → Option Y → Type 0
YieldsNone Memory reading = Unit {0}
YieldsNone Bad reading = reading ≡ None

-- what a reading gives: what is read, seen by view, or a fault where nothing is
abbrev pub Yields : {X Y : Type 0} → (X → Y) → Result X BinFault → Option Y → Type 0
Yields view (Ok x) reading = reading ≡ Some (view x)
Yields view (Err e) reading = YieldsNone e reading

-- Private: whether all bytes are 0
unfoldable pub is_zero : List ℕ → Bool
is_zero [] = true
is_zero (b ∷ bytes) = if b == 0 then is_zero bytes else false

-- Private: whether the bytes have these bits
unfoldable pub are_octets : List ℕ → List Bool → Bool
are_octets [] bits = true
are_octets (b ∷ bytes) bits = if b == octet (take 8 bits) then are_octets bytes (drop 8 bits) else false

-- Private: the bit of this index
abbrev pub is_marked : List ℕ → ℕ → Bool
is_marked nulls index = slice_index nulls (index / 8) / 2 ^ (index % 8) % 2 == 1

-- Private: a day from 0001-01-01 to 9999-12-31
abbrev pub day_in : ℤ → Option Value
day_in day = if int_le first_day day && int_le day last_day then Some (Day day) else None

-- Private: the value of a number in a column of a type whose values have neither text nor bytes
unfoldable pub value_in : ColType → ℕ → Option Value
value_in Boolean n = if n == 0 then Some (Truth false) else if n == 1 then Some (Truth true) else None
value_in TinyInt n = if nat_lt n (2 ^ 8) then Some (Whole (cast_signed w8 n)) else None
value_in SmallInt n = if nat_lt n (2 ^ 16) then Some (Whole (cast_signed w16 n)) else None
value_in Int n = if nat_lt n (2 ^ 32) then Some (Whole (cast_signed w32 n)) else None
value_in BigInt n = Some (Whole (cast_signed w64 n))
value_in Date n = if nat_lt n (2 ^ 32) then day_in (cast_signed w32 n) else None
value_in Timestamp n = Some (Millis (cast_signed w64 n))
value_in kind n = None

-- Private: so many bytes of a slot, and all of the tails
unfoldable pub short_in : ℕ → List ℕ → List ℕ → Option (List ℕ × List ℕ)
short_in n place tails =
    if nat_le n 7
    then if is_zero (drop n (take 7 place)) then Some (take n (take 7 place), tails) else None
    else None

-- Private: so many bytes of the tails, which are at this offset of a body of this size, and the later tails
unfoldable pub long_in : ℕ → ℕ → ℕ → List ℕ → Option (List ℕ × List ℕ)
long_in size n offset tails =
    if nat_lt 7 n
    then if offset + length tails == size
    then if nat_le (padded n) (length tails)
    then if is_zero (drop n (take (padded n) tails))
    then Some (take n (take (padded n) tails), drop (padded n) tails)
    else None else None else None else None

-- Private: the text of a slot, and the later tails
unfoldable pub text_in : ℕ → List ℕ → List ℕ → Option (List ℕ × List ℕ)
text_in size place tails =
    if nat_lt (slice_index place 7) 128
    then long_in size (from_le_bytes w32 (take 4 place)) (from_le_bytes w32 (take 4 (drop 4 place))) tails
    else short_in (slice_index place 7 - 128) place tails

-- Private: bytes that are UTF-8 as a text
abbrev pub words_in : List ℕ × List ℕ → Option (Value × List ℕ)
words_in (text, tails) = if is_utf8 text then Some (Words text, tails) else None

-- Private: the value of a slot that isn't null, and the later tails
unfoldable pub some_in : ℕ → ColType → List ℕ → List ℕ → Option (Value × List ℕ)
some_in size Text place tails = text_in size place tails >>= words_in
some_in size Bytes place tails = option_map (λ t. (Octets t.0, t.1)) (text_in size place tails)
some_in size kind place tails = option_map (λ v. (v, tails)) (value_in kind (from_le_bytes w64 place))

-- Private: the value of a slot, which is marked as null or isn't, and the later tails
unfoldable pub cell_in : ℕ → ColType → Bool → List ℕ → List ℕ → Option (Value × List ℕ)
cell_in size kind true place tails = if is_zero place then Some (Null, tails) else None
cell_in size kind false place tails = some_in size kind place tails

-- Private: the values of the slots from the column on whose null bit has this index
unfoldable pub cells_in : ℕ → List ℕ → ℕ → List ColType → List ℕ → List ℕ → Option Values
cells_in size nulls index [] places [] = Some []
cells_in size nulls index [] places (b ∷ tails) = None
cells_in size nulls index (kind ∷ kinds) places tails = do
  cell ← cell_in size kind (is_marked nulls index) (take 8 places) tails
  values ← cells_in size nulls (index + 1) kinds (drop 8 places) cell.1
  Some (cell.0 ∷ values)

-- Private: values that were read before, and those that are still read
abbrev pub with_earlier : Values → Option Values → Option Values
with_earlier earlier = option_map (λ values. earlier ++ values)

-- Private: the values, where the null bytes are theirs
abbrev pub with_nulls : List ℕ → Values → Option Values
with_nulls nulls values = if are_octets nulls (null_bits (map is_null values)) then Some values else None

-- Private: the values of a body
unfoldable pub body_in : List ColType → List ℕ → Option Values
body_in kinds body =
    if nat_le (fixed_size (length kinds)) (length body)
    then cells_in (length body) (take (null_count (length kinds)) body) 8 kinds
    (take (8 * length kinds) (drop (null_count (length kinds)) body))
    (drop (8 * length kinds) (drop (null_count (length kinds)) body))
    >>= with_nulls (take (null_count (length kinds)) body)
    else None

-- Private: whether each number is a byte
unfoldable pub are_bytes : List ℕ → Bool
are_bytes [] = true
are_bytes (b ∷ bytes) = if nat_lt b 256 then are_bytes bytes else false

-- Private: the values of a row's bytes
unfoldable pub whole_in : List ColType → List ℕ → Option Values
whole_in kinds bytes =
    if nat_lt (length bytes) (2 ^ 31)
    then if nat_le 4 (length bytes)
    then if from_be_bytes w32 (take 4 bytes) == length kinds then body_in kinds (drop 4 bytes)
    else None else None else None

-- The row of columns of these types that bytes are, if they are one. `reading_law` says which it is.
unfoldable pub row_in : List ColType → List ℕ → Option Values
row_in kinds bytes = if are_bytes bytes then whole_in kinds bytes else None
