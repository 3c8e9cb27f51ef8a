-- Numbers in records, and the bounds that they keep to.
use Rattle.std.specs.Prelude.{ℕ, ◌-◌, ◌^◌, ℤ, pos, nat_le, nat_lt, Option, Some, None, if◌then◌else◌}
use Rattle.pm_base.specs.Steps.{◌>>=◌}
use Rattle.pm_avro_data.specs.Datum.{Data}
use Rattle.pm_record.specs.Scalar.{long_in, int_in}

-- the greatest size of a file, number of rows, and number of entries
abbrev pub most_counted : ℕ
most_counted = 2 ^ 48

-- the greatest id of a schema
abbrev pub most_id : ℕ
most_id = 2 ^ 53 - 1

-- the greatest sequence number
abbrev pub most_sequence : ℕ
most_sequence = 2 ^ 62 - 1

-- a number that isn't negative
abbrev pub natural : ℤ → Option ℕ
natural (pos n) = Some n
natural z = None

-- a number that is at most so great
abbrev pub at_most : ℕ → ℕ → Option ℕ
at_most most n = if nat_le n most then Some n else None

-- a number below another
abbrev pub below : ℕ → ℕ → Option ℕ
below bound n = if nat_lt n bound then Some n else None

-- the number of a long from 0 to the greatest
abbrev pub count_in : ℕ → Data → Option ℕ
count_in most d = long_in d >>= natural >>= at_most most

-- the number of an int from 0 to 2^31 - 1
abbrev pub natural_in : Data → Option ℕ
natural_in d = int_in d >>= natural >>= below (2 ^ 31)
