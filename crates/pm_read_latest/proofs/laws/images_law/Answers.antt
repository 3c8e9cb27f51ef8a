use Rattle.pm_read_latest.proofs.Facts.{images}
use Rattle.pm_read_latest.proofs.laws.images_law.Goals as goal

pub returns : goal.returns
returns c = images
