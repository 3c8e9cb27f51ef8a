use Rattle.std.proofs.Common.{sym, ◌∙◌}
use Rattle.pm_scan.specs.Rows.{passes_at}
use Rattle.pm_scan.proofs.RowsLemmas.{passed-next}
use Rattle.pm_scan.proofs.rows.passed_runs.Goals as goal

pub loop-index-preserved : goal.loop-index-preserved
loop-index-preserved c =
    passed-next (passes_at c.args.schema.now) c.args.runs.now c.loop-index.index c.index-runs-index.result c.loop-index-test.true c.index-runs-index.is
    (sym c.is_passed.ensures ∙ c.if-is_passed.false) c.loop-index.invariant
