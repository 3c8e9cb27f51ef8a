-- The faults that the bytes of a changelog file may have.
use Rattle.std.proofs.Common.{ℕ, List, None}
use Rattle.pm_values.specs.declared.refusal.Refusal.{Refusal}
use Rattle.pm_schema.specs.declared.schema.TableSchema.{TableSchema}
use Rattle.pm_run.proofs.FaultLemmas.{OfFaults, follow_fault, opened_fault}
use Rattle.pm_read_table.proofs.FaultLemmas.{IsFileFault}
use Rattle.pm_read_frame.specs.Taken.{RefusesFile, misread, unopened}
use Rattle.pm_read_frame.specs.declared.file.ChangesFile.{ChangesFile}

-- a fault of a file is one of these
of_files : OfFaults IsFileFault
of_files = record { memory = tt; damaged = λ path place. tt; unsupported = λ what text. tt }

pub refuses_fault : (s : TableSchema) (file : ChangesFile) (bytes : List ℕ) (e : Refusal) → RefusesFile s file bytes e → IsFileFault e
refuses_fault s file bytes e (unopened refuses) = opened_fault IsFileFault of_files s file.schema_id file.path bytes e refuses
refuses_fault s file bytes e (misread v rows opens follow) = follow_fault IsFileFault of_files v.opened v.opened.file.first None rows e follow
