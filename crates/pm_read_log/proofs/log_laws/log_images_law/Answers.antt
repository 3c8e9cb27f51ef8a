use Rattle.pm_read_log.proofs.LogFacts.{images}
use Rattle.pm_read_log.proofs.log_laws.log_images_law.Goals as goal

pub returns : goal.returns
returns c = images
