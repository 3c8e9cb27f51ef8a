use Rattle.pm_model_changelog.proofs.KeyLemmas.{told-keys}
use Rattle.pm_model_changelog.proofs.laws.told_keys_law.Goals as goal

pub returns : goal.returns
returns c = λ s entries n key fit. told-keys c.merged_table_law.ensures s entries n key fit
