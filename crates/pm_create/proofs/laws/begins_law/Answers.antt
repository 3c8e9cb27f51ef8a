use Rattle.pm_create.proofs.Facts.{lasts}
use Rattle.pm_create.proofs.laws.begins_law.Goals as goal

pub returns : goal.returns
returns c = lasts c.past_law.ensures
