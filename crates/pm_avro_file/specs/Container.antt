-- Which bytes are an object container file (Apache Avro specification, "Object Container Files").
-- Each relation says of a source that it is the part's bytes and then the rest, which may be any bytes.
use Rattle.std.specs.Prelude.{◌≡◌, ℕ, ◌≤◌, pos, List, [], ◌∷◌, ◌++◌, length}
use Rattle.std.specs.Prelude.{map, codes, if◌then◌else◌, Option, Some, None}
use Rattle.std.specs.Option.{option_or}
use Rattle.std.specs.Str.{bytes_eq}
use Rattle.pm_avro_schema.specs.Avro as types
use Rattle.pm_avro_schema.specs.Avro.{Avro}
use Rattle.pm_avro_schema.specs.Meaning.{TypeOf}
use Rattle.pm_avro_schema.specs.Readable.{IsReadable}
use Rattle.pm_avro_data.specs.Datum.{Data, bytes as bytes_data, map_of, entries_of}
use Rattle.pm_avro_data.specs.IsDatum.{IsDatum, AreItems}
use Rattle.pm_avro_data.specs.Number.{IsLong}

-- the four bytes that each file begins with: `Obj` and 1
abbrev pub magic : List ℕ
magic = 79 ∷ 98 ∷ 106 ∷ 1 ∷ []

-- a header's keys and values in order
abbrev pub Pairs : Type 0
Pairs = List (List ℕ × List ℕ)

-- keys and values as the datum that a header has: a map from texts to bytes
abbrev pub metadata : Pairs → Data
metadata pairs = map_of (entries_of (map (λ p. (p.0, bytes_data p.1)) pairs))

-- the value of a key: where it stands more than once its last one
abbrev pub last_value : List ℕ → Pairs → Option (List ℕ)
last_value key [] = None
last_value key (p ∷ pairs) = option_or (last_value key pairs) (if bytes_eq p.0 key then Some p.1 else None)

-- the value that names the codec, which is how the blocks are packed
abbrev pub codec_in : Pairs → Option (List ℕ)
codec_in = last_value (codes "avro.codec")

-- the value that is the text of the type
abbrev pub schema_in : Pairs → Option (List ℕ)
schema_in = last_value (codes "avro.schema")

-- the blocks aren't packed: no codec is named, or the one that leaves them as they are
abbrev pub IsPlain : Option (List ℕ) → Type 0
IsPlain None = Unit {0}
IsPlain (Some name) = name ≡ codes "null"

-- what stands before the blocks, whatever it says: the four bytes, the metadata, and the marker of 16 bytes
pub record IsPreamble (pairs : Pairs) (marker source rest : List ℕ) : Type 0 where
  pub start : List ℕ
  pub left : List ℕ
  pub begins : source ≡ magic ++ start
  pub pairs_read : IsDatum (types.map_of types.bytes) (metadata pairs) start left
  pub sixteen : length marker ≡ 16
  pub marked : left ≡ marker ++ rest

-- the header of a file that has data of the type
pub record IsHeader (t : Avro) (marker source rest : List ℕ) : Type 0 where
  pub pairs : Pairs
  pub preamble : IsPreamble pairs marker source rest
  pub plain : IsPlain (codec_in pairs)
  pub schema : List ℕ
  pub found : schema_in pairs ≡ Some schema
  pub declared : TypeOf schema t
  pub readable : IsReadable t

-- a block: how many data, how many bytes, the data and nothing else in them, and the header's marker
pub record IsBlock (t : Avro) (marker : List ℕ) (ds : List Data) (source rest : List ℕ) : Type 0 where
  pub middle : List ℕ
  pub left : List ℕ
  pub content : List ℕ
  pub count : IsLong (pos (length ds)) source middle
  pub size : IsLong (pos (length content)) middle left
  pub within : length ds ≤ length content
  pub each : AreItems (IsDatum t) ds content []
  pub marked : left ≡ content ++ (marker ++ rest)

-- the bytes are a file with data of the type in these blocks
pub record IsContainer (t : Avro) (blocks : List (List Data)) (marker bytes : List ℕ) : Type 0 where
  pub start : List ℕ
  pub header : IsHeader t marker bytes start
  pub each : AreItems (IsBlock t marker) blocks start []
