use Rattle.std.proofs.Common.{◌≡◌, drop}
use Rattle.pm_paths.specs.Ids.{latest_from}
use Rattle.pm_paths.proofs.ids.latest_from.Given as goal

abbrev pub invariant-loop-name : goal.invariant-loop-name
invariant-loop-name l = latest_from (drop l.name-index l.names) l.latest ≡ latest_from l.names 0
