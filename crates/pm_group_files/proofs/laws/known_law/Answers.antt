use Rattle.pm_group_files.proofs.Facts.{knows_still}
use Rattle.pm_group_files.proofs.laws.known_law.Goals as goal

pub returns : goal.returns
returns c = knows_still
