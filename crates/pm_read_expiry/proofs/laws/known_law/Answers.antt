use Rattle.pm_read_expiry.proofs.Facts.{knows_still}
use Rattle.pm_read_expiry.proofs.laws.known_law.Goals as goal

pub returns : goal.returns
returns c = knows_still c.known_law.ensures.between
