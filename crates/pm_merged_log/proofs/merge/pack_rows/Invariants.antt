use Rattle.std.proofs.Common.{◌≡◌, ◌++◌, length}
use Rattle.pm_scan_rows.specs.Stored.{run_left}
use Rattle.pm_merged_log.proofs.merge.pack_rows.Given as goal

abbrev pub invariant-loop-left : goal.invariant-loop-left
invariant-loop-left l = l.rows ++ run_left l.left ≡ l.fn.rows ++ l.fn.run

abbrev pub decreases-loop-left : goal.decreases-loop-left
decreases-loop-left l = length (run_left l.left)
