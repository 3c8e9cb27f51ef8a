-- Private: a file of rows that is written row by row.
use Rattle.std.specs.Prelude.{◌≡◌, ℕ, List, ◌++◌, length, map}
use Rattle.std.specs.List.{AllByRecursion}
use Rattle.pm_avro_data.specs.Datum.{Data}
use Rattle.pm_avro_file.specs.Begun.{AreEncoded, IsBegun}
use Rattle.pm_record.specs.File.{joined}
use Rattle.pm_values.specs.declared.record.Stamped.{Stamped}
use Rattle.pm_run.specs.Form.{Form}
use Rattle.pm_run.specs.Kinds.{run_type}
use Rattle.pm_run.specs.Row.{row_data}
use Rattle.pm_run.specs.Typed.{IsWritable}
use Rattle.pm_run_writer.specs.declared.begun_file.BegunFile.{BegunFile}

-- the rows so far: those of full blocks, which are in the file, and those of the block that comes next
pub record HasBegun (f : Form) (marker : List ℕ) (rows : List Stamped) (file : BegunFile) : Type 0 where
  pub blocks : List (List Data)
  pub last : List Data
  pub same : joined blocks ++ last ≡ map (row_data f) rows
  pub full : AllByRecursion (λ ds. length ds ≡ 1024) blocks
  pub begun : IsBegun (run_type f) marker blocks file.out.items
  pub encoded : AreEncoded (run_type f) last file.block.items
  pub count : file.count ≡ length last
  pub marked : file.marker ≡ marker
  pub writable : AllByRecursion (IsWritable f) rows
