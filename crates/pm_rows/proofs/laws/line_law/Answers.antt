use Rattle.pm_rows.proofs.RowLemmas.{IsUnbroken-row_text, row_text-begins}
use Rattle.pm_rows.proofs.laws.line_law.Goals as goal

pub returns-clause-newline : goal.returns-clause-newline
returns-clause-newline c = IsUnbroken-row_text

pub returns-clause-begins : goal.returns-clause-begins
returns-clause-begins c = row_text-begins
