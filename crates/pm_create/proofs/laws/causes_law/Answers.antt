use Rattle.pm_create.proofs.Facts.{one_refusal}
use Rattle.pm_create.proofs.laws.causes_law.Goals as goal

pub returns : goal.returns
returns c = one_refusal
