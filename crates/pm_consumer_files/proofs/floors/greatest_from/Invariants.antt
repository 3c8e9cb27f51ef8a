use Rattle.std.proofs.Common.{◌≡◌, drop}
use Rattle.pm_consumer_files.specs.Floors.{greatest_from}
use Rattle.pm_consumer_files.proofs.floors.greatest_from.Given as goal

abbrev pub invariant-loop-name : goal.invariant-loop-name
invariant-loop-name l = greatest_from (drop l.name-index l.names) l.floor ≡ greatest_from l.names 0
