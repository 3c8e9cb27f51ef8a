use Rattle.std.proofs.Common.{ap, ◌∙◌, rules}
use Rattle.pm_rows.specs.Reading.{row_of}
use Rattle.pm_rows.proofs.RowLemmas.{row_of-row_text}
use Rattle.pm_rows.proofs.print.print_row.Goals as goal

pub returns-clause-again : goal.returns-clause-again
returns-clause-again c fits =
    ap (row_of c.args.columns.now) (search rules) ∙ row_of-row_text c.args.columns.now c.args.kind c.args.row.now fits
