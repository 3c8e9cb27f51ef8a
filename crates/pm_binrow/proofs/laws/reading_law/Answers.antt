use Rattle.pm_binrow.proofs.Rows.{row_read_again}
use Rattle.pm_binrow.proofs.laws.reading_law.Goals as goal

pub returns : goal.returns
returns c = row_read_again
