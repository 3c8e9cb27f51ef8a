use Rattle.pm_runs.proofs.GoesOnLemmas.{moved}
use Rattle.pm_runs.proofs.laws.same_law.Goals as goal

pub returns : goal.returns
returns c = moved
