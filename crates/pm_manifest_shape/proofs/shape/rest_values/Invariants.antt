use Rattle.std.proofs.Common.{◌≡◌, ◌++◌, drop, length}
use Rattle.pm_manifest.specs.Shape.{rest_of}
use Rattle.pm_manifest_shape.proofs.shape.rest_values.Given as goal

abbrev pub invariant-loop-place : goal.invariant-loop-place
invariant-loop-place l =
    l.values.items ++ rest_of (drop (length l.yielded) l.places) (drop (length l.yielded) l.key) ≡ rest_of l.places l.key
