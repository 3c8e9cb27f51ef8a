use Rattle.pm_model_expiry.proofs.KnownLemmas.{announced-there, announces-on}
use Rattle.pm_model_expiry.proofs.laws.announces_law.Goals as goal

pub returns-clause-change : goal.returns-clause-change
returns-clause-change c = announces-on c.steps_law.ensures.announces

pub returns-clause-known : goal.returns-clause-known
returns-clause-known c = announced-there
