-- What a datum that holds no other data is read as.
use Rattle.std.specs.Prelude.{ℕ, ℤ, Bool, List, Option, Some, None}
use Rattle.pm_avro_data.specs.Datum.{Data, boolean, int, long, bytes, text}

-- the number of a long, or of an int, which a long may stand for
abbrev pub long_in : Data → Option ℤ
long_in (long z) = Some z
long_in (int z) = Some z
long_in d = None

-- the number of an int
abbrev pub int_in : Data → Option ℤ
int_in (int z) = Some z
int_in d = None

-- a text
abbrev pub text_in : Data → Option (List ℕ)
text_in (text bs) = Some bs
text_in d = None

-- bytes
abbrev pub bytes_in : Data → Option (List ℕ)
bytes_in (bytes bs) = Some bs
bytes_in d = None

-- a boolean
abbrev pub boolean_in : Data → Option Bool
boolean_in (boolean b) = Some b
boolean_in d = None
