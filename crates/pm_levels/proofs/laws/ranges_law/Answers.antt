use Rattle.pm_levels.proofs.Facts.{ranges-rise}
use Rattle.pm_levels.proofs.laws.ranges_law.Goals as goal

pub returns : goal.returns
returns c = ranges-rise
