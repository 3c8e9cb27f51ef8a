use Rattle.pm_model_consumers.proofs.ClaimLemmas.{least}
use Rattle.pm_model_consumers.proofs.laws.least_law.Goals as goal

pub returns : goal.returns
returns c = least
