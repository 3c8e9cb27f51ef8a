use Rattle.std.proofs.Common.{◌≡◌, ◌++◌, drop, map, reverse}
use Rattle.pm_levels.specs.Runs.{run_of}
use Rattle.pm_scan_rows.specs.Stored.{run_left}
use Rattle.pm_group_log.specs.Told.{is_side, rows_where}
use Rattle.pm_group_log.proofs.sides.rows_of.Given as goal

-- the rows so far, and those of the runs that are left
abbrev pub invariant-loop-own : goal.invariant-loop-own
invariant-loop-own l =
    map run_left l.sources.items ++ rows_where (is_side l.below l.first) (reverse (map run_of l.older)) (drop l.own-index l.read)
    ≡ rows_where (is_side l.below l.first) (reverse (map run_of l.fn.known)) l.read
