use Rattle.pm_register.proofs.Facts.{knows_still}
use Rattle.pm_register.proofs.laws.known_law.Goals as goal

pub returns : goal.returns
returns c = knows_still c.consumers_law.ensures.moved c.follower_law.ensures.kept
