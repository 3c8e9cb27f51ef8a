-- A datum that is written after other bytes.
use Rattle.std.specs.Prelude.{◌≡◌, ℕ, List, ◌++◌}
use Rattle.pm_avro_data.specs.Datum.{Data}
use Rattle.pm_avro_data.specs.Writing.{Fits, encoding}

-- the bytes of a datum came after others; memory holds the datum
pub record Adds (before after : List ℕ) (d : Data) : Type 0 where
  pub added : after ≡ before ++ encoding d
  pub fits : Fits d
