use Rattle.pm_expire.proofs.FoundLemmas.{found}
use Rattle.pm_expire.proofs.laws.found_law.Goals as goal

pub returns : goal.returns
returns c = found
