use Rattle.pm_expire.proofs.OneEndLemmas.{one_end}
use Rattle.pm_expire.proofs.laws.one_end_law.Goals as goal

pub returns : goal.returns
returns c = one_end
