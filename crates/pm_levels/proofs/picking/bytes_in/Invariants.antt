use Rattle.std.proofs.Common.{◌≡◌, ◌-◌, ◌^◌, min, take}
use Rattle.pm_levels.specs.Picking.{bytes_in}
use Rattle.pm_levels.proofs.picking.bytes_in.Given as goal

abbrev pub invariant-loop-run : goal.invariant-loop-run
invariant-loop-run l = l.bytes ≡ min (bytes_in (take l.run-index l.runs)) (2 ^ 128 - 1)
