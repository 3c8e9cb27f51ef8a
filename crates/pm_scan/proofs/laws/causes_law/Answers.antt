use Rattle.pm_scan.proofs.CauseLemmas.{causes}
use Rattle.pm_scan.proofs.laws.causes_law.Goals as goal

pub returns : goal.returns
returns c = causes c.causes_law.ensures c.causes_law-2.ensures
