use Rattle.pm_announce.proofs.CauseLemmas.{causes}
use Rattle.pm_announce.proofs.laws.causes_law.Goals as goal

pub returns : goal.returns
returns c = causes
