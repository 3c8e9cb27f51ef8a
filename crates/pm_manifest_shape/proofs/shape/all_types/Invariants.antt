use Rattle.std.proofs.Common.{◌≡◌, map, take}
use Rattle.pm_manifest_shape.proofs.shape.all_types.Given as goal

abbrev pub invariant-loop-column : goal.invariant-loop-column
invariant-loop-column l = l.types.items ≡ map (λ c. c.kind) (take l.column-index l.columns)
