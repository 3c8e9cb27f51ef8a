use Rattle.pm_register.proofs.OneLemmas.{one_refusal}
use Rattle.pm_register.proofs.laws.causes_law.Goals as goal

pub returns : goal.returns
returns c = one_refusal
