use Rattle.std.proofs.Common.{◌≡◌, drop}
use Rattle.std.specs.List.{list_any}
use Rattle.pm_read_schema.specs.Names.{names_snapshot}
use Rattle.pm_read_schema.proofs.names.any_snapshot.Given as goal

abbrev pub invariant-loop-name : goal.invariant-loop-name
invariant-loop-name l = list_any names_snapshot (drop l.name-index l.names) ≡ list_any names_snapshot l.names
