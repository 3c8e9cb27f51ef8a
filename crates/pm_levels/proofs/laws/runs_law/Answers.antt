use Rattle.pm_levels.proofs.RunLemmas.{same-runs}
use Rattle.pm_levels.proofs.laws.runs_law.Goals as goal

pub returns : goal.returns
returns c = same-runs
