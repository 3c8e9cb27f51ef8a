use Rattle.pm_rows.proofs.RowLemmas.{row_of-row_text, row_text-injective}
use Rattle.pm_rows.proofs.laws.round_trip_law.Goals as goal

pub returns-clause-again : goal.returns-clause-again
returns-clause-again c = row_of-row_text

pub returns-clause-one_row : goal.returns-clause-one_row
returns-clause-one_row c = row_text-injective
