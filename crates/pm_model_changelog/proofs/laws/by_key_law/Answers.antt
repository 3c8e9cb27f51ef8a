use Rattle.pm_model_changelog.proofs.PartsLemmas.{given-own, given-rise, only-given}
use Rattle.pm_model_changelog.proofs.laws.by_key_law.Goals as goal

pub returns-clause-rise : goal.returns-clause-rise
returns-clause-rise c = λ s rows. given-rise s rows

pub returns-clause-same : goal.returns-clause-same
returns-clause-same c = λ s key rows. given-own s key rows

pub returns-clause-only : goal.returns-clause-only
returns-clause-only c = λ s rows given rise same. only-given s rows given rise same
