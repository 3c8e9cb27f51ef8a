use Rattle.std.proofs.Common.{◌≡◌, ◌++◌, map, take}
use Rattle.pm_scan_rows.specs.Stored.{run_left}
use Rattle.pm_scan_rows.proofs.shown.push_sources.Given as goal

-- the runs so far were added
abbrev pub invariant-loop-run : goal.invariant-loop-run
invariant-loop-run l = map run_left l.sources.items ≡ map run_left l.initial.sources.items ++ take l.run-index l.runs
