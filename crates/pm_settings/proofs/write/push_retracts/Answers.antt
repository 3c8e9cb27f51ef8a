use Rattle.pm_options.specs.Fields.{retract_suffix}
use Rattle.pm_options.specs.Kinds.{truth_text}
use Rattle.pm_options.specs.Pairs.{column_key}
use Rattle.pm_settings.proofs.WriteLemmas.{Adds-more, Adds-all}
use Rattle.pm_settings.proofs.write.push_retracts.Goals as goal

pub loop-column-preserved : goal.loop-column-preserved
loop-column-preserved c =
    Adds-more (λ e. (column_key retract_suffix e.0, (truth_text) e.1)) c.args.retracts.now c.loop-column.column-index c.loop-column-item.result c.loop-column-test.true c.loop-column-item.is c.loop-column.invariant
    (rw c.print_truth.ensures at c.in_ok-push_column.ensures)

pub returns : goal.returns
returns c = Adds-all (λ e. (column_key retract_suffix e.0, (truth_text) e.1)) c.args.retracts.now c.loop-column.column-index c.loop-column-test.false c.loop-column.invariant
