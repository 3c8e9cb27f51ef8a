use Rattle.pm_scan.proofs.RowsLemmas.{passed-start}
use Rattle.pm_scan.proofs.rows.passed_jobs.Goals as goal

pub loop-group-init : goal.loop-group-init
loop-group-init c =
    passed-start c.args.schema.now c.args.groups.entries c.into_iter-group-iterator.result c.new-jobs.result.items c.new-jobs.ensures.items
    c.into_iter-group-iterator.ensures.into_iter_gives.0 c.requires
