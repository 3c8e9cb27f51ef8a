use Rattle.pm_expire.proofs.ImageLemmas.{image}
use Rattle.pm_expire.proofs.laws.image_law.Goals as goal

pub returns : goal.returns
returns c = image
