use Rattle.pm_rows.proofs.FitLemmas.{Fits-row_of}
use Rattle.pm_rows.proofs.laws.fit_law.Goals as goal

pub returns : goal.returns
returns c columns line kind row = Fits-row_of columns line (kind, row)
