use Rattle.std.proofs.Common.{◌≡◌, map, take}
use Rattle.pm_avro_schema.specs.View as types
use Rattle.pm_run_bytes.proofs.same.are_same_leaves.Given as goal

-- those so far are the same
abbrev pub invariant-loop-index : goal.invariant-loop-index
invariant-loop-index l = map types.view (take l.index l.kinds) ≡ map types.view (take l.index l.others)
