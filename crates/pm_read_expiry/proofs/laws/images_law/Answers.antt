use Rattle.pm_read_expiry.proofs.Facts.{images}
use Rattle.pm_read_expiry.proofs.laws.images_law.Goals as goal

pub returns : goal.returns
returns c = images
