use Rattle.pm_manifest.proofs.LiveLemmas.{whence}
use Rattle.pm_manifest.proofs.laws.live_law.Goals as goal

pub returns : goal.returns
returns c = whence
