use Rattle.pm_options.specs.Fields.{function_suffix}
use Rattle.pm_options.specs.Kinds.{function_text}
use Rattle.pm_options.specs.Pairs.{column_key}
use Rattle.pm_settings.proofs.WriteLemmas.{Adds-more, Adds-all}
use Rattle.pm_settings.proofs.write.push_functions.Goals as goal

pub loop-column-preserved : goal.loop-column-preserved
loop-column-preserved c =
    Adds-more (λ e. (column_key function_suffix e.0, (function_text) e.1)) c.args.functions.now c.loop-column.column-index c.loop-column-item.result c.loop-column-test.true c.loop-column-item.is c.loop-column.invariant
    (rw c.print_function.ensures at c.in_ok-push_column.ensures)

pub returns : goal.returns
returns c = Adds-all (λ e. (column_key function_suffix e.0, (function_text) e.1)) c.args.functions.now c.loop-column.column-index c.loop-column-test.false c.loop-column.invariant
