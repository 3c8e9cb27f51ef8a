use Rattle.std.proofs.Common.{◌≡◌, ◌++◌, drop}
use Rattle.pm_group_files.specs.Jobs.{file_jobs_as}
use Rattle.pm_group_files.proofs.job.push_files.Given as goal

abbrev pub invariant-loop-index : goal.invariant-loop-index
invariant-loop-index l =
    l.jobs.items ++ file_jobs_as l.fn.kept l.fn.schema l.fn.group l.fn.ends (drop l.index l.files)
    ≡ l.fn.jobs.items ++ file_jobs_as l.fn.kept l.fn.schema l.fn.group l.fn.ends l.files
