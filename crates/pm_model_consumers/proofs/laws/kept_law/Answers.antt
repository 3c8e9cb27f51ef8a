use Rattle.pm_model_consumers.proofs.ChangeLemmas.{kept}
use Rattle.pm_model_consumers.proofs.laws.kept_law.Goals as goal

pub returns : goal.returns
returns c = kept
