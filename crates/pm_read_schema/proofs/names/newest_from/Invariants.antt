use Rattle.std.proofs.Common.{◌≡◌, drop, None}
use Rattle.pm_read_schema.specs.Names.{newest_from}
use Rattle.pm_read_schema.proofs.names.newest_from.Given as goal

abbrev pub invariant-loop-name : goal.invariant-loop-name
invariant-loop-name l = newest_from (drop l.name-index l.names) l.best ≡ newest_from l.names None
