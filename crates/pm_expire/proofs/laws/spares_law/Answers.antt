use Rattle.pm_expire.proofs.SparesLemmas.{spares}
use Rattle.pm_expire.proofs.laws.spares_law.Goals as goal

pub returns : goal.returns
returns c = spares
