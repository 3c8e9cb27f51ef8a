use Rattle.std.proofs.Common.{◌≡◌, ◌++◌, drop, map}
use Rattle.pm_levels.specs.Runs.{run_of}
use Rattle.pm_choice.specs.Choice.{run_entries}
use Rattle.pm_choice.proofs.removed.push_runs.Given as goal

-- the entries so far, and those of the runs that are left
abbrev pub invariant-loop-run : goal.invariant-loop-run
invariant-loop-run l =
    l.removed.items ++ run_entries l.schema l.group (map run_of (drop l.run-index l.runs))
    ≡ l.fn.removed.items ++ run_entries l.schema l.group (map run_of l.runs)
