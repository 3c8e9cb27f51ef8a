use Rattle.pm_expire.proofs.SparesLemmas.{image_spares}
use Rattle.pm_expire.proofs.laws.image_spares_law.Goals as goal

pub returns : goal.returns
returns c = image_spares
