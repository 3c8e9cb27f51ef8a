use Rattle.std.proofs.Common.{◌≡◌, drop}
use Rattle.pm_manifest.specs.Shape.{type_of}
use Rattle.pm_manifest_shape.proofs.shape.type_of.Given as goal

abbrev pub invariant-loop-column : goal.invariant-loop-column
invariant-loop-column l = type_of (drop l.column-index l.columns) l.name ≡ type_of l.columns l.name
