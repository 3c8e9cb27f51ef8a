use Rattle.std.proofs.Common.{◌≡◌, ◌++◌, length}
use Rattle.pm_scan_rows.specs.Stored.{run_left}
use Rattle.pm_merged_log.specs.Merged.{lines_of}
use Rattle.pm_merged_log.proofs.lines.push_rows.Given as goal

abbrev pub invariant-loop-slot : goal.invariant-loop-slot
invariant-loop-slot l = l.text.items ++ lines_of (run_left l.rows) ≡ l.fn.text.items ++ lines_of l.fn.run

abbrev pub decreases-loop-slot : goal.decreases-loop-slot
decreases-loop-slot l = length (run_left l.rows)
