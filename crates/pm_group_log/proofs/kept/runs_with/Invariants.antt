use Rattle.std.proofs.Common.{◌≡◌, ◌++◌, drop, map}
use Rattle.pm_levels.specs.Runs as levels
use Rattle.pm_levels.specs.Runs.{run_of}
use Rattle.pm_lookup.specs.Lookup.{files_of}
use Rattle.pm_group_log.specs.Told.{files_with}
use Rattle.pm_group_log.proofs.kept.runs_with.Given as goal

-- the runs so far have the first bytes, and those that are left the others
abbrev pub invariant-loop-run : goal.invariant-loop-run
invariant-loop-run l =
    files_of l.runs.items ++ files_with l.schema l.chosen.group (levels.files_of (map run_of (drop l.run-index l.stay))) l.bytes.items
    ≡ files_with l.schema l.chosen.group (levels.files_of (map run_of l.stay)) l.fn.kept.items
