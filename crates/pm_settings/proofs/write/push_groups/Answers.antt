use Rattle.std.proofs.Common.{ℕ, List}
use Rattle.pm_options.specs.Fields.{group_suffix}
use Rattle.pm_options.specs.Pairs.{column_key}
use Rattle.pm_options.specs.Table.{Setting}
use Rattle.pm_options.specs.Written.{list_text}
use Rattle.pm_settings.proofs.WriteLemmas.{Adds-more, Adds-all}
use Rattle.pm_settings.proofs.write.push_groups.Goals as goal

abbrev setting : List ℕ × List (List ℕ) → Setting
setting e = (column_key group_suffix e.0, list_text e.1)

pub loop-column-preserved : goal.loop-column-preserved
loop-column-preserved c =
    Adds-more setting c.args.groups.now c.loop-column.column-index c.loop-column-item.result c.loop-column-test.true c.loop-column-item.is c.loop-column.invariant
    (rw (c.as_str.ensures.value, c.in_ok-text.ensures, c.as_slice.ensures) at c.in_ok-push_column.ensures)

pub returns : goal.returns
returns c = Adds-all setting c.args.groups.now c.loop-column.column-index c.loop-column-test.false c.loop-column.invariant
