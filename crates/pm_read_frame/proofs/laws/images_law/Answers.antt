use Rattle.pm_read_frame.proofs.Facts.{images}
use Rattle.pm_read_frame.proofs.laws.images_law.Goals as goal

pub returns : goal.returns
returns c = images
