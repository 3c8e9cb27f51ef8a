use Rattle.std.proofs.Common.{ℕ, List}
use Rattle.pm_options.specs.Fields.{delimiter_suffix}
use Rattle.pm_options.specs.Pairs.{column_key}
use Rattle.pm_options.specs.Table.{Setting}
use Rattle.pm_settings.proofs.WriteLemmas.{Adds-more, Adds-all}
use Rattle.pm_settings.proofs.write.push_delimiters.Goals as goal

abbrev setting : List ℕ × List ℕ → Setting
setting e = (column_key delimiter_suffix e.0, e.1)

pub loop-column-preserved : goal.loop-column-preserved
loop-column-preserved c =
    Adds-more setting c.args.delimiters.now c.loop-column.column-index c.loop-column-item.result c.loop-column-test.true c.loop-column-item.is c.loop-column.invariant
    (rw c.as_str.ensures at c.in_ok-push_column.ensures)

pub returns : goal.returns
returns c = Adds-all setting c.args.delimiters.now c.loop-column.column-index c.loop-column-test.false c.loop-column.invariant
