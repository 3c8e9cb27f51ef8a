use Rattle.pm_model_changelog.proofs.ChangeLemmas.{change-told}
use Rattle.pm_model_changelog.proofs.laws.log_law.Goals as goal

pub returns : goal.returns
returns c = λ s g entries e wholly p holds fit compares on.
    change-told c.told_keys_law.ensures c.told_law.ensures s g entries e wholly p holds fit compares on
