use Rattle.std.proofs.Common.{◌≡◌, ◌++◌, drop, map}
use Rattle.pm_levels.specs.Runs.{run_of}
use Rattle.pm_group_files.specs.Jobs.{run_jobs_as}
use Rattle.pm_group_files.proofs.job.push_runs.Given as goal

abbrev pub invariant-loop-index : goal.invariant-loop-index
invariant-loop-index l =
    l.jobs.items ++ run_jobs_as l.fn.kept l.fn.schema l.fn.group l.fn.ends (drop l.index (map run_of l.runs))
    ≡ l.fn.jobs.items ++ run_jobs_as l.fn.kept l.fn.schema l.fn.group l.fn.ends (map run_of l.runs)
