use Rattle.pm_levels.proofs.ReplacedLemmas.{replaced-disjoint, replaced-named, replaced-runs}
use Rattle.pm_levels.proofs.laws.replaced_law.Goals as goal

pub returns-clause-runs : goal.returns-clause-runs
returns-clause-runs c = replaced-runs

pub returns-clause-disjoint : goal.returns-clause-disjoint
returns-clause-disjoint c = replaced-disjoint

pub returns-clause-named : goal.returns-clause-named
returns-clause-named c = replaced-named
