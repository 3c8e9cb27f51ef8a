use Rattle.std.proofs.Common.{◌≡◌, ◌++◌, drop}
use Rattle.std.specs.List.{filter_map}
use Rattle.pm_paths.specs.Ids.{listed_id}
use Rattle.pm_paths.proofs.ids.listed_ids.Given as goal

abbrev pub invariant-loop-name : goal.invariant-loop-name
invariant-loop-name l = l.ids.items ++ filter_map listed_id (drop l.name-index l.names) ≡ filter_map listed_id l.names
