use Rattle.pm_machine.proofs.Facts.{acted}
use Rattle.pm_machine.proofs.laws.acted_law.Goals as goal

pub returns : goal.returns
returns g c old new before after result = acted
