use Rattle.pm_manifest.proofs.LiveLemmas.{moved}
use Rattle.pm_manifest.proofs.laws.move_law.Goals as goal

pub returns : goal.returns
returns c = moved
