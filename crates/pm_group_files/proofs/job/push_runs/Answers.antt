use Rattle.std.proofs.Common.{◌++◌, map}
use Rattle.pm_levels.specs.Runs.{run_of}
use Rattle.pm_group_files.specs.Jobs.{run_jobs_as}
use Rattle.pm_group_files.proofs.JobLemmas.{seen_more}
use Rattle.pm_group_files.proofs.job.push_runs.Goals as goal

pub loop-index-preserved : goal.loop-index-preserved
loop-index-preserved c =
    let files = c.as_slice.ensures.value in
    seen_more c.args.kept c.args.schema.now c.args.group.now c.args.ends c.args.runs.now c.loop-index.index c.index-runs-index.result c.ends_where-own.result c.loop-index.jobs.items
    c.push_files.new.jobs.items (c.args.jobs.now.items ++ run_jobs_as c.args.kept c.args.schema.now c.args.group.now c.args.ends (map run_of c.args.runs.now)) c.loop-index-test.true c.index-runs-index.is
    c.ends_where-own.ensures (rw files at c.in_ok-push_files.ensures) c.loop-index.invariant
