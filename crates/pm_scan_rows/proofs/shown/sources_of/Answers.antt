use Rattle.std.proofs.Common.{◌∙◌}
use Rattle.pm_scan_rows.proofs.GivenLemmas.{group_next}
use Rattle.pm_scan_rows.proofs.shown.sources_of.Goals as goal

pub loop-runs-preserved : goal.loop-runs-preserved
loop-runs-preserved c =
    c.in_ok-push_sources.ensures ∙ group_next c.args.groups.now c.loop-runs.runs-index c.runs-item.result _ c.as_slice.result.now c.loop-runs-test.true c.runs-item.is c.as_slice.ensures.value c.loop-runs.invariant
