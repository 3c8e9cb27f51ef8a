use Rattle.pm_expire.proofs.KeptLemmas.{kept}
use Rattle.pm_expire.proofs.laws.kept_law.Goals as goal

pub returns : goal.returns
returns c = kept
