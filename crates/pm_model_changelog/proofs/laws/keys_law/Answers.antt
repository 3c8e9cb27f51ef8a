use Rattle.pm_model_changelog.proofs.ChangeLemmas.{run-keys}
use Rattle.pm_model_changelog.proofs.laws.keys_law.Goals as goal

pub returns : goal.returns
returns c = λ runs run rising same. run-keys runs run rising same
