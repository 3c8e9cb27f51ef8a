-- The bytes of a file that is written: the keys in order, numbers as short as they can be, the metadata in one block.
use Rattle.std.specs.Prelude.{ℕ, pos, List, [], ◌∷◌, ◌++◌, length, codes}
use Rattle.std.specs.List.{flat_map}
use Rattle.pm_avro_schema.specs.Avro.{Avro}
use Rattle.pm_avro_schema.specs.Writing.{avro_text}
use Rattle.pm_avro_data.specs.Datum.{Data, items_of}
use Rattle.pm_avro_data.specs.Writing.{integer, sized, encoding, items_encoding}
use Rattle.pm_avro_file.specs.Container.{magic, Pairs, metadata}

-- the metadata that are written with the text of a type
abbrev pub written_pairs : List ℕ → Pairs
written_pairs schema = (codes "avro.codec", codes "null") ∷ (codes "avro.schema", schema) ∷ []

-- the bytes of a header
abbrev pub header_bytes : Avro → List ℕ → List ℕ
header_bytes t marker = magic ++ (encoding (metadata (written_pairs (avro_text t))) ++ marker)

-- the bytes of a block
abbrev pub block_bytes : List ℕ → List Data → List ℕ
block_bytes marker ds = integer (pos (length ds)) ++ (sized (items_encoding (items_of ds)) ++ marker)

-- the bytes of a file
abbrev pub file_bytes : Avro → List (List Data) → List ℕ → List ℕ
file_bytes t blocks marker = header_bytes t marker ++ flat_map (block_bytes marker) blocks
