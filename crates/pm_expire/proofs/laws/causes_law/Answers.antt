use Rattle.pm_expire.proofs.ToldLemmas.{causes}
use Rattle.pm_expire.proofs.laws.causes_law.Goals as goal

pub returns : goal.returns
returns c = causes c.causes_law.ensures
