use Rattle.pm_runs.proofs.GoesOnLemmas.{found}
use Rattle.pm_runs.proofs.laws.found_law.Goals as goal

pub returns : goal.returns
returns c = found
