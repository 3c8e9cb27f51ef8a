use Rattle.pm_machine.proofs.Facts.{HasTrace-acts}
use Rattle.pm_machine.proofs.laws.traces_law.Goals as goal

pub returns : goal.returns
returns g c old new first before after result trace later acts = HasTrace-acts trace acts later
