use Rattle.pm_consumers.proofs.Facts.{images}
use Rattle.pm_consumers.proofs.laws.images_law.Goals as goal

pub returns : goal.returns
returns c = images
