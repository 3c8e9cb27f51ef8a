-- What a reader's answers tell of it.
use Rattle.std.proofs.Common.{◌≡◌, ◌≤◌, ℕ, List, Bool, false, Some, Ok, length, ap}
use Rattle.pm_schema.specs.declared.schema.TableSchema.{TableSchema}
use Rattle.pm_values.specs.declared.record.Stamped.{Stamped}
use Rattle.pm_run.specs.Reader.{GivesBlock, OpensRun, RunView}
use Rattle.pm_run.specs.Rows.{Opened}

-- a reader that was opened isn't over
pub opened_over : (s : TableSchema) (changes : Bool) (id : ℕ) (path bytes : List ℕ) (v : RunView) → OpensRun s changes id path bytes (Ok v) → v.over ≡ false
opened_over s changes id path bytes v opens = ap (λ (v : RunView). v.over) opens.4

-- the offset after a block is one of the file
pub block_within : {X : Type 0} (view : X → List Stamped) (o : Opened) (offset : ℕ) (found : X × ℕ) → GivesBlock view o offset (Ok (Some found)) → found.1 ≤ length o.file.bytes
block_within view o offset found gives = gives.1.within
