use Rattle.pm_snapshots.proofs.CauseLemmas.{causes}
use Rattle.pm_snapshots.proofs.laws.causes_law.Goals as goal

pub returns : goal.returns
returns c = causes
