use Rattle.pm_binrow.proofs.Rows.{one_row, same_columns}
use Rattle.pm_binrow.proofs.laws.row_law.Goals as goal

pub returns-clause-row : goal.returns-clause-row
returns-clause-row c = one_row

pub returns-clause-columns : goal.returns-clause-columns
returns-clause-columns c = same_columns
