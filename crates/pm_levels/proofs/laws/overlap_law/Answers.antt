use Rattle.pm_levels.proofs.OverlapLemmas.{first-moved, not-both}
use Rattle.pm_levels.proofs.laws.overlap_law.Goals as goal

pub returns-clause-either : goal.returns-clause-either
returns-clause-either c = not-both

pub returns-clause-same : goal.returns-clause-same
returns-clause-same c = first-moved
