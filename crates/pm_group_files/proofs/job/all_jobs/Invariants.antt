use Rattle.pm_group_files.proofs.JobLemmas.{JobsLeft}
use Rattle.pm_group_files.proofs.job.all_jobs.Given as goal

-- with the files of the groups that are left, so far all are
abbrev pub invariant-loop-group : goal.invariant-loop-group
invariant-loop-group l = JobsLeft l.fn.schema l.fn.groups.entries l.group-iterator l.jobs.items
