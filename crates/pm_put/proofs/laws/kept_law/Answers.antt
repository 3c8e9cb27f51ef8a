use Rattle.pm_put.proofs.Facts.{kept}
use Rattle.pm_put.proofs.laws.kept_law.Goals as goal

pub returns : goal.returns
returns c = kept
