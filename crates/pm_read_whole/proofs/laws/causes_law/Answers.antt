use Rattle.pm_read_whole.proofs.CauseLemmas.{causes}
use Rattle.pm_read_whole.proofs.laws.causes_law.Goals as goal

pub returns : goal.returns
returns c = causes c.causes_law.ensures c.log_causes_law.ensures
