use Rattle.std.proofs.Common.{◌≡◌, map, take}
use Rattle.std.specs.List.{position}
use Rattle.std.specs.Str.{bytes_eq}
use Rattle.pm_manifest_shape.proofs.shape.places_of.Given as goal

abbrev pub invariant-loop-name : goal.invariant-loop-name
invariant-loop-name l = l.places.items ≡ map (λ name. position (bytes_eq name) l.others) (take l.name-index l.names)
