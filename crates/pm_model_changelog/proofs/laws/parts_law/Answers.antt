use Rattle.pm_model_changelog.proofs.PartsLemmas.{parts-same}
use Rattle.pm_model_changelog.proofs.laws.parts_law.Goals as goal

pub returns : goal.returns
returns c = λ s entries n rows holds fit same. parts-same s c.told_keys_law.ensures entries n rows holds fit same
