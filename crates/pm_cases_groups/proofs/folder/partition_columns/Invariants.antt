use Rattle.std.proofs.Common.{take}
use Rattle.std.specs.List.{AllZip}
use Rattle.pm_cases_groups.specs.Columns.{StandsFor}
use Rattle.pm_cases_groups.proofs.folder.partition_columns.Given as goal

abbrev pub invariant-loop-name : goal.invariant-loop-name
invariant-loop-name l = AllZip (StandsFor l.schema.columns) (take l.name-index l.schema.partition) l.columns.items
