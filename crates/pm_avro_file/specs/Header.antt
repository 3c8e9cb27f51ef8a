-- What a header's metadata say: the type of the data, or why it isn't read. The codec is judged first.
use Rattle.std.specs.Prelude.{ℕ, List, codes, if◌then◌else◌, Option, Some, None, Result, Err}
use Rattle.std.specs.Str.{bytes_eq, is_utf8}
use Rattle.pm_avro_schema.specs.Avro.{Avro}
use Rattle.pm_avro_schema.specs.Reading.{parsed_type}
use Rattle.pm_avro_schema.specs.declared.fault.AvroFault.{AvroFault}
use Rattle.pm_avro_schema.specs.declared.fault.AvroFault.TheVariants.{Unsupported, Bad}
use Rattle.pm_avro_file.specs.Container.{Pairs, codec_in, schema_in}

-- the fault of a codec that isn't read: bytes that aren't UTF-8 are no name
abbrev pub codec_fault : List ℕ → AvroFault
codec_fault name = if is_utf8 name then Unsupported (codes "codec") name else Bad 0

-- blocks as the codec leaves them, or its fault
abbrev pub unpacked : Option (List ℕ) → Result Avro AvroFault → Result Avro AvroFault
unpacked None kind = kind
unpacked (Some name) kind = if bytes_eq name (codes "null") then kind else Err (codec_fault name)

-- a fault of the header, whose offset is 0
abbrev pub at_header : Result Avro AvroFault → Result Avro AvroFault
at_header (Err (Bad offset)) = Err (Bad 0)
at_header reading = reading

-- the type that the text declares; there must be one
abbrev pub declared_by : Option (List ℕ) → Result Avro AvroFault
declared_by None = Err (Bad 0)
declared_by (Some schema) = at_header (parsed_type schema)

-- the type that the metadata give, or their fault
abbrev pub kind_in : Pairs → Result Avro AvroFault
kind_in pairs = unpacked (codec_in pairs) (declared_by (schema_in pairs))
