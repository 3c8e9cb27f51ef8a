use Rattle.pm_levels.proofs.NewestLemmas.{newest-disjoint, newest-named, newest-run, two-more}
use Rattle.pm_levels.proofs.laws.newest_law.Goals as goal

pub returns-clause-runs : goal.returns-clause-runs
returns-clause-runs c = newest-run

pub returns-clause-named : goal.returns-clause-named
returns-clause-named c = newest-named

pub returns-clause-disjoint : goal.returns-clause-disjoint
returns-clause-disjoint c = newest-disjoint

pub returns-clause-two : goal.returns-clause-two
returns-clause-two c = two-more
