use Rattle.pm_model_history.specs.ColumnValue.{column_value}
use Rattle.pm_reference.proofs.TableLemmas.{values_more}
use Rattle.pm_reference.proofs.table.values_of.Goals as goal

-- one value more
pub loop-index-preserved : goal.loop-index-preserved
loop-index-preserved c =
    rw c.in_ok-push.ensures.items
    (values_more (λ index. column_value c.args.schema.now index c.args.rows.now) c.loop-index.values.items _ c.in_ok-column_value.field-0 c.loop-index.index _ c.loop-index-test.true c.in_ok-column_value.ensures c.loop-index.invariant)
