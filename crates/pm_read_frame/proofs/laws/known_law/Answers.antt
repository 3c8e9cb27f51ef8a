use Rattle.pm_read_frame.proofs.Facts.{knows_still}
use Rattle.pm_read_frame.proofs.laws.known_law.Goals as goal

pub returns : goal.returns
returns c = knows_still c.kept_law.ensures.change
