use Rattle.pm_read_consumer.proofs.Facts.{images}
use Rattle.pm_read_consumer.proofs.laws.images_law.Goals as goal

pub returns : goal.returns
returns c = images
