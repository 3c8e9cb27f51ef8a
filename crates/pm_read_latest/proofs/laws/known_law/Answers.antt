use Rattle.pm_read_latest.proofs.Facts.{knows_still}
use Rattle.pm_read_latest.proofs.laws.known_law.Goals as goal

pub returns : goal.returns
returns c = knows_still
