use Rattle.pm_expire.proofs.AnnouncedLemmas.{are_consumers, others, same_end, there}
use Rattle.pm_expire.proofs.laws.announced_law.Goals as goal

pub returns-clause-others : goal.returns-clause-others
returns-clause-others c = others

pub returns-clause-there : goal.returns-clause-there
returns-clause-there c = there

pub returns-clause-consumers : goal.returns-clause-consumers
returns-clause-consumers c = are_consumers

pub returns-clause-end : goal.returns-clause-end
returns-clause-end c = same_end
