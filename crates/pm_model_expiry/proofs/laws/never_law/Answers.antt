use Rattle.pm_model_expiry.proofs.NeverLemmas.{never_named}
use Rattle.pm_model_expiry.proofs.laws.never_law.Goals as goal

pub returns : goal.returns
returns c = never_named
