use Rattle.pm_group_files.proofs.Facts.{images}
use Rattle.pm_group_files.proofs.laws.images_law.Goals as goal

pub returns : goal.returns
returns c = images
