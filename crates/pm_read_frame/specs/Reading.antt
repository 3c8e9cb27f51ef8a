-- Changelog files that are read one after another.
use Rattle.std.specs.Prelude.{ℕ, List}
use Rattle.pm_values.specs.declared.record.Stamped.{Stamped}
use Rattle.pm_schema.specs.declared.schema.TableSchema.{TableSchema}
use Rattle.pm_read_frame.specs.declared.file.ChangesFile.{ChangesFile}

-- the table, the snapshot's id, the rows so far, the next file, and those after it
pub record ReadingView : Type 0 where
  pub schema : TableSchema
  pub id : ℕ
  pub rows : List Stamped
  pub next : ChangesFile
  pub rest : List ChangesFile

abbrev pub reading_of : TableSchema → ℕ → List Stamped → ChangesFile → List ChangesFile → ReadingView
reading_of s id rows next rest = record { schema = s; id = id; rows = rows; next = next; rest = rest }
