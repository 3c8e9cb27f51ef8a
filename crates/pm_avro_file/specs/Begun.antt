-- A file that is written a block at a time.
use Rattle.std.specs.Prelude.{◌≡◌, ℕ, List, [], ◌++◌, false}
use Rattle.std.specs.List.{AllByRecursion, flat_map}
use Rattle.pm_avro_schema.specs.Avro.{Avro, takes_no_byte}
use Rattle.pm_avro_schema.specs.Readable.{IsReadable}
use Rattle.pm_avro_data.specs.Adding.{Adds}
use Rattle.pm_avro_data.specs.Datum.{Data, items_of, record_of}
use Rattle.pm_avro_data.specs.HasType.{HasType}
use Rattle.pm_avro_data.specs.IsDatum.{AreItems}
use Rattle.pm_avro_file.specs.Container.{IsBlock, IsHeader}
use Rattle.pm_avro_file.specs.Writing.{block_bytes, file_bytes, header_bytes}

-- the bytes are a file with these blocks, and one with more where more follow
pub record IsBegun (t : Avro) (marker : List ℕ) (blocks : List (List Data)) (out : List ℕ) : Type 0 where
  pub written : out ≡ file_bytes t blocks marker
  pub header : (rest : List ℕ) → IsHeader t marker (header_bytes t marker ++ rest) rest
  pub each : (rest : List ℕ) → AreItems (IsBlock t marker) blocks (flat_map (block_bytes marker) blocks ++ rest) rest

-- the bytes are those of data of a type that files can have, one after another
pub record AreEncoded (t : Avro) (ds : List Data) (content : List ℕ) : Type 0 where
  pub readable : IsReadable t
  pub some : takes_no_byte t ≡ false
  pub typed : AllByRecursion (HasType t) ds
  pub added : Adds [] content (record_of (items_of ds))
