use Rattle.pm_read_whole.proofs.Facts.{images}
use Rattle.pm_read_whole.proofs.laws.images_law.Goals as goal

pub returns : goal.returns
returns c = images
