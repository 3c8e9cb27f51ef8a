use Rattle.std.proofs.Common.{◌≡◌, drop, map}
use Rattle.pm_levels.specs.Runs.{run_of}
use Rattle.pm_scan.specs.Rows.{from_first, passes_at}
use Rattle.pm_scan.proofs.rows.passed_runs.Given as goal

-- none of the runs so far is passed on
abbrev pub invariant-loop-index : goal.invariant-loop-index
invariant-loop-index l = from_first (passes_at l.schema) (map run_of (drop l.index l.runs)) ≡ from_first (passes_at l.schema) (map run_of l.runs)
