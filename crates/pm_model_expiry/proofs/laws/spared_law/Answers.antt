use Rattle.pm_model_expiry.proofs.KnownLemmas.{spared}
use Rattle.pm_model_expiry.proofs.laws.spared_law.Goals as goal

pub returns : goal.returns
returns c = spared
