use Rattle.pm_scan.proofs.Facts.{knows_still}
use Rattle.pm_scan.proofs.laws.known_law.Goals as goal

pub returns : goal.returns
returns c = knows_still c.kept_law.ensures.table
