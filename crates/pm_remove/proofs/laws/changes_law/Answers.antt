use Rattle.pm_remove.proofs.Facts.{image_makes}
use Rattle.pm_remove.proofs.laws.changes_law.Goals as goal

pub returns : goal.returns
returns c = image_makes
