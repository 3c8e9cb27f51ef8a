use Rattle.std.proofs.Common.{◌≡◌, map, take}
use Rattle.pm_manifest.specs.Shape.{type_of}
use Rattle.pm_manifest_shape.proofs.shape.types_of.Given as goal

abbrev pub invariant-loop-name : goal.invariant-loop-name
invariant-loop-name l = l.types.items ≡ map (type_of l.columns) (take l.name-index l.names)
