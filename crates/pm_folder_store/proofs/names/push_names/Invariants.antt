use Rattle.std.proofs.Common.{◌≡◌, ◌++◌, map}
use Rattle.std.specs.List.{flat_map}
use Rattle.pm_folder_store.specs.Names.{name_of}
use Rattle.pm_folder_store.proofs.names.push_names.Given as goal

abbrev pub invariant-loop-name : goal.invariant-loop-name
invariant-loop-name l = l.names.items ≡ l.fn.names.items ++ flat_map name_of (map (λ x. x.now) l.yielded)
