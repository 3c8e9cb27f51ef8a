use Rattle.pm_read_whole.proofs.CauseLemmas.{are_named}
use Rattle.pm_read_whole.proofs.laws.paths_law.Goals as goal

pub returns : goal.returns
returns c = are_named c.whole_law.ensures
