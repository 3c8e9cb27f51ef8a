use Rattle.std.proofs.Common.{◌≡◌, ◌++◌, map, drop}
use Rattle.pm_manifest.specs.Shape.{apart_from, type_of}
use Rattle.pm_manifest_shape.proofs.shape.rest_types.Given as goal

abbrev pub invariant-loop-name : goal.invariant-loop-name
invariant-loop-name l = l.types.items ++ map (type_of l.columns) (apart_from l.others (drop l.name-index l.names))
    ≡ map (type_of l.columns) (apart_from l.others l.names)
