use Rattle.std.proofs.Common.{◌≡◌, map, take}
use Rattle.pm_scan_rows.specs.Shown.{all_runs, groups_of}
use Rattle.pm_scan_rows.specs.Stored.{run_left}
use Rattle.pm_scan_rows.proofs.shown.sources_of.Given as goal

-- the runs of the groups so far
abbrev pub invariant-loop-runs : goal.invariant-loop-runs
invariant-loop-runs l = map run_left l.sources.items ≡ all_runs (groups_of (take l.runs-index l.groups))
