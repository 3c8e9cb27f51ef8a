use Rattle.std.proofs.Common.{◌≡◌, ◌++◌, drop}
use Rattle.std.specs.List.{filter_map}
use Rattle.pm_expire_paths.specs.Floors.{listed_below}
use Rattle.pm_expire_paths.proofs.floors.listed_floors.Given as goal

abbrev pub invariant-loop-name : goal.invariant-loop-name
invariant-loop-name l =
    l.floors.items ++ filter_map (listed_below l.own) (drop l.name-index l.names) ≡ filter_map (listed_below l.own) l.names
