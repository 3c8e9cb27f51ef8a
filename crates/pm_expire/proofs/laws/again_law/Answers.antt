use Rattle.pm_expire.proofs.KeptLemmas.{again}
use Rattle.pm_expire.proofs.laws.again_law.Goals as goal

pub returns : goal.returns
returns c = again c.end_law.ensures
