use Rattle.pm_read_schema.proofs.Facts.{images}
use Rattle.pm_read_schema.proofs.laws.images_law.Goals as goal

pub returns : goal.returns
returns c = images
