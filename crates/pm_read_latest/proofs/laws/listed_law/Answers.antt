use Rattle.pm_read_latest.proofs.Facts.{listed}
use Rattle.pm_read_latest.proofs.laws.listed_law.Goals as goal

pub returns : goal.returns
returns c = listed
