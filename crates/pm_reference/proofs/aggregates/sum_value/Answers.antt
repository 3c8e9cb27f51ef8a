use Rattle.pm_model_history.specs.ColumnValue.{width_of}
use Rattle.pm_reference.proofs.StepLemmas.{sum_row, added-fits}
use Rattle.pm_reference.proofs.aggregates.sum_value.Goals as goal

-- one row more
pub loop-row-preserved : goal.loop-row-preserved
loop-row-preserved c =
    let width = width_of c.args.kind in
    rw c.added-sum.ensures record {
      sum = sum_row width c.args.index c.args.rows.now c.loop-row.row-index c.row-item.result c.loop-row.sum c.summand.result _ c.loop-row-test.true c.row-item.is c.summand.ensures.value c.loop-row.invariant.sum;
      fits = added-fits width c.loop-row.sum c.summand.result c.loop-row.invariant.fits;
    }
