use Rattle.pm_compactor.proofs.SoundLemmas.{images}
use Rattle.pm_compactor.proofs.laws.images_law.Goals as goal

pub returns : goal.returns
returns c = images c.machine_law.ensures.sound
