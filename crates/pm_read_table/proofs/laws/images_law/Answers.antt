use Rattle.pm_read_table.proofs.Facts.{images}
use Rattle.pm_read_table.proofs.laws.images_law.Goals as goal

pub returns : goal.returns
returns c = images
