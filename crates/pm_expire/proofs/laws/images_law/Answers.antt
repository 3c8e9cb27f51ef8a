use Rattle.pm_expire.proofs.Facts.{images}
use Rattle.pm_expire.proofs.laws.images_law.Goals as goal

pub returns : goal.returns
returns c = images c.sound_law.ensures
