use Rattle.pm_consumers.proofs.CauseLemmas.{causes}
use Rattle.pm_consumers.proofs.laws.causes_law.Goals as goal

pub returns : goal.returns
returns c = causes
