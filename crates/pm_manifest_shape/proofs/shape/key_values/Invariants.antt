use Rattle.std.proofs.Common.{◌≡◌, ◌++◌, drop}
use Rattle.pm_manifest.specs.Shape.{key_of}
use Rattle.pm_manifest_shape.proofs.shape.key_values.Given as goal

abbrev pub invariant-loop-place : goal.invariant-loop-place
invariant-loop-place l =
    l.values.items ++ key_of (drop l.place-index l.places) l.partition l.left ≡ key_of l.places l.partition l.rest
