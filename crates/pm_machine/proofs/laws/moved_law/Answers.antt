use Rattle.pm_machine.proofs.Facts.{moved}
use Rattle.pm_machine.proofs.laws.moved_law.Goals as goal

pub returns : goal.returns
returns g c old new before after result = moved
