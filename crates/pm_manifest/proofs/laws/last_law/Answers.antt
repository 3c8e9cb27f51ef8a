use Rattle.pm_manifest.proofs.LiveLemmas.{last, others}
use Rattle.pm_manifest.proofs.laws.last_law.Goals as goal

pub returns-clause-last : goal.returns-clause-last
returns-clause-last c = last

pub returns-clause-others : goal.returns-clause-others
returns-clause-others c = others
