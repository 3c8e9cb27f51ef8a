use Rattle.pm_model_consumers.proofs.ChangeLemmas.{begins}
use Rattle.pm_model_consumers.proofs.laws.begins_law.Goals as goal

pub returns : goal.returns
returns c = begins
