use Rattle.pm_scan.proofs.Facts.{images}
use Rattle.pm_scan.proofs.laws.images_law.Goals as goal

pub returns : goal.returns
returns c = images
