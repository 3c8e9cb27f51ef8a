use Rattle.pm_remove.proofs.AloneLemmas.{all_lost, some_lost}
use Rattle.pm_remove.proofs.laws.alone_law.Goals as goal

pub returns-clause-some : goal.returns-clause-some
returns-clause-some c = some_lost

pub returns-clause-all : goal.returns-clause-all
returns-clause-all c = all_lost
