use Rattle.std.proofs.Common.{◌≡◌, ◌≤◌, take}
use Rattle.pm_levels.specs.Picking.{zeros_of}
use Rattle.pm_levels.proofs.picking.zeros_of.Given as goal

abbrev pub invariant-loop-run : goal.invariant-loop-run
invariant-loop-run l = record { count : l.count ≡ zeros_of (take l.run-index l.runs); within : l.count ≤ l.run-index }
