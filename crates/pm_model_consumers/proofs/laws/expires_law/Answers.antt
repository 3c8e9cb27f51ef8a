use Rattle.pm_model_consumers.proofs.ExpiryLemmas.{removes}
use Rattle.pm_model_consumers.proofs.laws.expires_law.Goals as goal

pub returns : goal.returns
returns c = removes
