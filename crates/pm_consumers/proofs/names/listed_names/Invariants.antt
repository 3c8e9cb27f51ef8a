use Rattle.std.proofs.Common.{◌≡◌, ◌++◌, drop}
use Rattle.std.specs.List.{filter_map}
use Rattle.pm_consumers.specs.Names.{name_in}
use Rattle.pm_consumers.proofs.names.listed_names.Given as goal

abbrev pub invariant-loop-file : goal.invariant-loop-file
invariant-loop-file l = l.names.items ++ filter_map name_in (drop l.file-index l.files) ≡ filter_map name_in l.files
